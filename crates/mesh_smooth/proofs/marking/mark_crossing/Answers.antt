use Rattle.std.proofs.Common.{ℕ, ◌≡◌, ◌<◌, ◌*◌, inl, inr, arith}
use Rattle.std.proofs.lemmas.Bool.{cases_lt}
use Rattle.mesh_smooth.proofs.Passes.{all_more}
use Rattle.mesh_smooth.proofs.marking.mark_crossing.Goals as goal

pub loop-run-preserved : goal.loop-run-preserved
loop-run-preserved c = λ k l lk e.
    let to = c.end_of-to.result in
    elim (cases_lt k (4 * c.loop-run.run)) [
      | inl m ↦
          all_more c.args.points.now c.args.faces.now c.args.asked.now c.loop-run.crosses c.mark_near.new.crosses k
          c.mark_near.ensures.kept (c.loop-run.invariant k m lk e)
      | inr m ↦
          let below : k < to =
          elim (cases_lt k to) [
            | inl n ↦ n
            | inr n ↦ absurd (omega (arith, c.end_of-to.ensures.far (omega (arith, n, lk)), l, n))
          ] in
          c.in_ok-mark_near.ensures.tested k m below e
    ]
