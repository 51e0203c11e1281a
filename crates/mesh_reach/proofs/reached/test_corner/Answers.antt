use Rattle.std.proofs.Common.{ℕ, ◌≡◌, ◌∙◌, subst}
use Rattle.std.proofs.lemmas.Bool.{OnTrue_at}
use Rattle.std.proofs.lemmas.List.{get_or_default}
use Rattle.geo_sign.specs.Point.{Point, origin}
use Rattle.mesh.specs.Meshes.{point_at}
use Rattle.mesh_reach.specs.Reached.{IsNearSomeFace}
use Rattle.mesh_reach.proofs.Marked.{marked_more}
use Rattle.mesh_reach.proofs.reached.test_corner.Goals as goal

pub returns-clause-marked : goal.returns-clause-marked
returns-clause-marked c = λ v e.
    let homes = c.args.homes.now in
    let mesh = c.args.mesh.now in
    let Near : Point → Type 0 =
    λ p. IsNearSomeFace c.args.reach.fine c.args.reach.within mesh.points.items mesh.faces.items p in
    let q = c.index-homes-v.result in
    let same : q ≡ point_at homes c.args.v = c.index-homes-v.is ∙ get_or_default homes c.args.v q origin c.requires.corner in
    let here : Near q = OnTrue_at c.if-not-branch.false (c.in_ok-is_near.ensures) in
    marked_more (λ u. Near (point_at homes u)) c.args.search.now.marks.items c.args.v v c.requires.marked
    (subst (λ (p : Point). Near p) same here) e
