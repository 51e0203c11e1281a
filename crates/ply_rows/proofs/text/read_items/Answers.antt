use Rattle.std.proofs.Common.{arith, ◌-◌, ◌∙◌, ap, length}
use Rattle.std.proofs.lemmas.Result.{err_from_is_err_and}
use Rattle.ply_rows.specs.Tokens.{tokens_at}
use Rattle.ply_rows.proofs.ItemLemmas.{items_fail, items_done, items_there, token_ends}
use Rattle.ply_rows.proofs.text.read_items.Goals as goal

pub returns-in_err-end-in-Some-clause-items : goal.returns-in_err-end-in-Some-clause-items
returns-in_err-end-in-Some-clause-items c =
    let p = err_from_is_err_and c.from_residual.result c.from_residual.ensures.1 in
    rw (p.1, p.2)
    (items_fail c.in_err-end-in-Some.field-0.0 c.args.at c.args.count _ (tokens_at c.args.body.now c.in-Some.behind)
    (tokens_at c.args.body.now c.args.place) c.in-Some.behind (omega arith)
    (token_ends c.args.body.now c.in-Some.first c.in-Some.behind c.in-Some.ensures.order c.in-Some.ensures.most)
    c.in-Some.ensures.some c.in_err-end-in-Some.ensures.items)

pub returns-in_ok-end-in-Some-clause-items : goal.returns-in_ok-end-in-Some-clause-items
returns-in_ok-end-in-Some-clause-items c =
    items_done c.args.at c.args.count _ (tokens_at c.args.body.now c.in-Some.behind) (tokens_at c.args.body.now c.args.place)
    (tokens_at c.args.body.now c.in_ok-end-in-Some.end) c.in-Some.behind c.in_ok-end-in-Some.end (omega arith)
    (token_ends c.args.body.now c.in-Some.first c.in-Some.behind c.in-Some.ensures.order c.in-Some.ensures.most)
    c.in-Some.ensures.some c.in_ok-end-in-Some.ensures.items

pub returns-in_ok-end-in-Some-clause-there : goal.returns-in_ok-end-in-Some-clause-there
returns-in_ok-end-in-Some-clause-there c =
    let others =
    items_there c.args.at (c.args.count - 1) c.in-Some.behind (tokens_at c.args.body.now c.in-Some.behind) _
    c.in_ok-end-in-Some.ensures.items in
    omega (arith, others, ap length (c.in-Some.ensures.begins ∙ c.in-Some.ensures.some))
