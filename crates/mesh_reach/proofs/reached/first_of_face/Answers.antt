use Rattle.std.proofs.Common.{ℕ, length, get_or}
use Rattle.std.proofs.lemmas.Bool.{OnTrue_at}
use Rattle.mesh.specs.Meshes.{point_at}
use Rattle.mesh_reach.specs.Reached.{IsNearSomeFace}
use Rattle.mesh_reach.proofs.Marked.{each_corner}
use Rattle.mesh_reach.proofs.reached.first_of_face.Goals as goal

pub returns-clause-none : goal.returns-clause-none
returns-clause-none c =
    let homes = c.args.homes.now in
    let mesh = c.args.mesh.now in
    let P : ℕ → Type 0 =
    λ v. IsNearSomeFace c.args.reach.fine c.args.reach.within mesh.points.items mesh.faces.items (point_at homes v) in
    each_corner (length homes) P c.args.face c.requires.corners (OnTrue_at c.if-not-branch.false c.in_ok-test_corner.ensures.yes)
    (OnTrue_at c.if-not-branch-2.false c.in_ok-test_corner-2.ensures.yes)
    (OnTrue_at c.if-not-branch-3.false c.in_ok-test_corner-3.ensures.yes)
