use Rattle.std.proofs.Common.{◌≡◌, not, take, map}
use Rattle.solid_slice.specs.Cuts.{is_cut_face}
use Rattle.solid_slice.proofs.rings.uncut_faces.Given as goal

abbrev pub invariant-loop-face : goal.invariant-loop-face
invariant-loop-face l =
    l.uncut.items ≡ map (λ face. not (is_cut_face l.mesh.points.items l.fn.height face)) (take l.face-index l.mesh.faces.items)
