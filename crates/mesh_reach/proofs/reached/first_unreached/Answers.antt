use Rattle.std.proofs.Common.{ℕ, List, Option, IfOk, IfNone, subst}
use Rattle.geo_sign.specs.Point.{Point}
use Rattle.mesh_reach.specs.Reached.{AreReached}
use Rattle.mesh_reach.proofs.reached.first_unreached.Goals as goal

-- the points and faces are read through borrowed slices
pub returns : goal.returns
returns c =
    let reach = c.args.reach in
    let mesh = c.args.mesh.now in
    subst
    (λ (homes : List Point). IfOk c.first_of_faces.result (λ v. IfNone v (AreReached reach.fine reach.within homes c.args.home.now.faces.items mesh.points.items mesh.faces.items)))
    c.deref-3.ensures.value
    (subst
    (λ (faces : List (List ℕ)). IfOk c.first_of_faces.result (λ v. IfNone v (AreReached reach.fine reach.within c.deref-3.result.now faces mesh.points.items mesh.faces.items)))
    c.deref-4.ensures.value c.first_of_faces.ensures)
