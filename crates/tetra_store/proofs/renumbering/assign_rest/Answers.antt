use Rattle.std.proofs.Common.{ℕ, ◌<◌, ◌≡◌, length, ◌∙◌, inl, inr, subst, arith}
use Rattle.std.proofs.lemmas.Bool.{cases_lt}
use Rattle.tetra_store.specs.Links.{links_of, IsLive}
use Rattle.tetra_store.specs.Renumbered.{HasPlace}
use Rattle.tetra_store.proofs.renumbering.assign_rest.Goals as goal

pub loop-number-preserved : goal.loop-number-preserved
loop-number-preserved c =
    let number = c.loop-number.number in
    let links = links_of c.args.cells.now.slots in
    let now = c.assign.new.places.of.items in
    let count = c.loop-number.invariant.count in
    let below : number < length c.loop-number.places.of.items = omega (arith, c.loop-number-test.true, c.len-count.ensures, count) in
    record {
      assigned = c.in_ok-assign.ensures.assigned;
      count = c.assign.ensures.count ∙ count;
      done = λ x l live. elim (cases_lt x number) [
        | inl less ↦
            let p = c.loop-number.invariant.done x less live in (p.0, c.in_ok-assign.ensures.kept x p.0 p.1)
        | inr more ↦
            let e : number ≡ x = omega (arith, l, more) in
            subst (λ (y : ℕ). IsLive links y → HasPlace now y) e (c.in_ok-assign.ensures.placed below) live
      ];
    }
