use Rattle.std.proofs.Common.{ℕ, arith, inl, inr, subst, ◌≡◌}
use Rattle.std.proofs.lemmas.Bool.{cases_lt}
use Rattle.mesh_crossings.proofs.Known.{either_kept}
use Rattle.mesh_crossings.specs.Tested.{AreRanksKnown}
use Rattle.mesh_crossings.proofs.gather.open_pairs.Goals as goal

pub loop-r-preserved : goal.loop-r-preserved
loop-r-preserved c =
    let points = c.args.points.now in
    let faces = c.args.faces.now in
    let new = c.test_rank.new.pairs.items in
    record {
      ordered = c.in_ok-test_rank.ensures.ordered;
      known = λ r s less l.
          elim (cases_lt r c.loop-r.r) [
            | inl m ↦
                either_kept points faces c.loop-r.pairs.items new _ _ c.in_ok-test_rank.ensures.kept
                (c.loop-r.invariant.known r s less m)
            | inr m ↦
                let e : c.loop-r.r ≡ r = omega arith in
                subst (λ (k : ℕ). AreRanksKnown points faces c.args.ranks.now.numbers.now new k s) e
                (c.in_ok-test_rank.ensures.known s (omega arith))
          ];
    }
