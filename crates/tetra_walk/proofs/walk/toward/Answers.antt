use Rattle.std.proofs.Common.{subst}
use Rattle.geo_sign.specs.Point.{Point}
use Rattle.geo_sign.specs.Places.{IsLyingIn}
use Rattle.geo_sign.specs.NearPlaces.{towards_place}
use Rattle.tetra_store.specs.Links.{links_of}
use Rattle.tetra_store.specs.Store.{vertices_of}
use Rattle.tetra_walk.proofs.Ends.{sight_cells, one_towards_cell}
use Rattle.tetra_walk.proofs.walk.toward.Goals as goal

pub returns-clause-is : goal.returns-clause-is
returns-clause-is c =
    let s = c.args.t.now in let x = c.walk_to.result in
    (sight_cells s c.facts.ensures c.args.v c.requires.inserted c.args.s c.requires.data_point).towards
    ((links_of s.slots).at x) (c.requires.delaunay.cells x c.walk_to.ensures.live)
    (subst (λ (p : Point). IsLyingIn (vertices_of s) ((links_of s.slots).at x) (towards_place p c.args.s)) c.point.ensures
    c.walk_to.ensures.lies)

pub returns-clause-only : goal.returns-clause-only
returns-clause-only c =
    λ id l e. one_towards_cell c.args.t.now c.facts.ensures c.requires.delaunay c.args.v c.requires.inserted c.args.s
    c.requires.data_point id c.walk_to.result l c.walk_to.ensures.live e (returns-clause-is c)
