use Rattle.std.proofs.Common.{ℕ, ◌≡◌, ◌+◌, ◌-◌, ◌<◌, ◌^◌, ap, sym, ◌∙◌, arith, eqb, length}
use Rattle.std.specs.List.{Contains}
use Rattle.std.proofs.lemmas.Bool.{OnFalse_from, OnTrue_from, eq-eqb, eqb-true, false≢true}
use Rattle.std.proofs.lemmas.List.{get_or_default}
use Rattle.mesh_edges.specs.Pairs.{key_of_pair}
use Rattle.mesh_crossings.specs.Tested.{pair_in}
use Rattle.mesh_crossings.proofs.Tidied.{made, same_pair}
use Rattle.mesh_crossings.proofs.tidy.ends_with.Goals as goal

pub returns-clause-yes : goal.returns-clause-yes
returns-clause-yes c =
    let list = c.args.list.now in
    let last = c.pair_at-last.result in
    let pair = c.args.pair in
    let small : last.second < 2 ^ 32 = omega arith in
    let little : pair.second < 2 ^ 32 = omega arith in
    OnTrue_from (eqb c.key.result c.key-2.result) (Contains list pair)
    (λ yes. (
      length list - 1,
      omega arith,
      get_or_default list (length list - 1) pair (made 0 0) (omega arith)
          ∙ (sym c.pair_at-last.ensures
          ∙ same_pair last pair small little (sym c.key.ensures ∙ (eqb-true c.key.result c.key-2.result yes ∙ c.key-2.ensures))),
    ))

pub returns-clause-no : goal.returns-clause-no
returns-clause-no c =
    OnFalse_from (eqb c.key.result c.key-2.result)
    ((i : ℕ) → i + 1 ≡ length c.args.list.now → key_of_pair (pair_in c.args.list.now i) ≡ key_of_pair c.args.pair → ⊥)
    (λ no i e same.
    let at : i ≡ length c.args.list.now - 1 = omega arith in
    false≢true
    (sym no
    ∙ eq-eqb c.key.result c.key-2.result
    (c.key.ensures
    ∙ (ap key_of_pair c.pair_at-last.ensures
    ∙ (sym (ap (λ (k : ℕ). key_of_pair (pair_in c.args.list.now k)) at) ∙ (same ∙ sym c.key-2.ensures))))))
