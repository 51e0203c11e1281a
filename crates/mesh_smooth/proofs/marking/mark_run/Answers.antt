use Rattle.std.proofs.Common.{ℕ, ◌≡◌, inl, inr, arith, subst, sym, true}
use Rattle.std.proofs.lemmas.Bool.{cases_lt}
use Rattle.mesh_smooth.specs.Rounds.{flag, IsTestedAmong}
use Rattle.mesh_smooth.proofs.Passes.{among_more}
use Rattle.mesh_smooth.proofs.marking.mark_run.Goals as goal

pub loop-face-preserved : goal.loop-face-preserved
loop-face-preserved c =
    let points = c.args.mesh.now.points.now in
    let faces = c.args.mesh.now.faces.now in
    let asked = c.args.mesh.now.asked.now in
    let found = c.args.found.now in
    let more = c.mark_asked.new.crosses in
    record {
      kept = λ k e. c.mark_asked.ensures.kept k (c.loop-face.invariant.kept k e);
      tested = λ k low l e.
          elim (cases_lt k c.loop-face.face) [
            | inl m ↦
                among_more points faces asked c.loop-face.crosses more found k c.mark_asked.ensures.kept
                (c.loop-face.invariant.tested k low m e)
            | inr m ↦
                let same : c.loop-face.face ≡ k = omega arith in
                subst (λ (n : ℕ). IsTestedAmong points faces asked more found n) same
                (c.mark_asked.ensures.tested (subst (λ (n : ℕ). flag asked n ≡ true) (sym same) e))
          ];
    }
