use Rattle.std.proofs.Common.{ℕ, ◌≡◌, inl, inr, arith, subst}
use Rattle.std.proofs.lemmas.Bool.{cases_lt}
use Rattle.mesh_edges.specs.Edges.{face_at}
use Rattle.mesh_flips.specs.Fields.{HoldsFace}
use Rattle.mesh_smooth.proofs.Passes.{held_on}
use Rattle.mesh_smooth.proofs.marking.hull_of_run.Goals as goal

pub loop-face-preserved : goal.loop-face-preserved
loop-face-preserved c = λ k low l.
    let points = c.args.points.now in
    let more = c.joined-more.result in
    elim (cases_lt k c.loop-face.face) [
      | inl m ↦ held_on points more c.loop-face.hull _ c.joined-more.ensures.first (c.loop-face.invariant k low m)
      | inr m ↦
          let e : c.loop-face.face ≡ k = omega arith in
          subst (λ (n : ℕ). HoldsFace points more (face_at c.args.faces.now n)) e
          (held_on points more c.hull_of-own.result _ c.joined-more.ensures.second c.hull_of-own.ensures)
    ]
