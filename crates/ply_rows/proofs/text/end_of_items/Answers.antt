use Rattle.std.proofs.Common.{arith}
use Rattle.ply_rows.specs.Tokens.{tokens_at}
use Rattle.ply_rows.proofs.ItemLemmas.{one_read, items_cut, token_ends}
use Rattle.ply_rows.proofs.text.end_of_items.Goals as goal

pub loop-preserved : goal.loop-preserved
loop-preserved c = record {
  least = omega (arith, c.loop.invariant.least, c.in-Some.ensures.from, c.in-Some.ensures.order);
  most = c.in-Some.ensures.most;
  read =
      one_read (tokens_at c.args.body.now c.args.place) (tokens_at c.args.body.now c.loop.end)
      (tokens_at c.args.body.now c.in-Some.behind) _ c.args.place c.loop.counter c.loop.end c.in-Some.behind
      c.loop.invariant.read c.in-Some.ensures.some
      (token_ends c.args.body.now c.in-Some.field-0-0 c.in-Some.behind c.in-Some.ensures.order c.in-Some.ensures.most);
}

pub returns-in-None-clause-items : goal.returns-in-None-clause-items
returns-in-None-clause-items c =
    items_cut c.args.at c.args.more (tokens_at c.args.body.now c.args.place) (tokens_at c.args.body.now c.loop.end) c.args.place
    c.loop.counter c.loop.end c.loop.invariant.read c.in-None.ensures.none c.loop-test.true
