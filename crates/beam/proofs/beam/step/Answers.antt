use Rattle.std.proofs.Common.{◌≡◌, arith, subst, true}
use Rattle.geo_sign.specs.Rational.{displaced}
use Rattle.geo_sign.specs.Sights.{is_crossed, is_towards}
use Rattle.geo_sign.specs.Tetrahedron.{Tetrahedron, facet_of}
use Rattle.tetra_store.specs.Links.{links_of, tetrahedron_from}
use Rattle.tetra_store.specs.Store.{vertices_of}
use Rattle.sight.proofs.Exits.{at_vertex, through_side}
use Rattle.beam.proofs.Steps.{IsScene, went, ended, at_least}
use Rattle.beam.proofs.beam.step.Goals as goal

pub returns-then-side-eq-NO_SIDE-clause-sums : goal.returns-then-side-eq-NO_SIDE-clause-sums
returns-then-side-eq-NO_SIDE-clause-sums c =
    λ id k m b.
    (let s = c.args.view.now.t.now in let o = c.args.view.now.s in let r = c.args.ray.now in let h = c.requires in let y = c.args.from.now.cell in
    let scene : IsScene s o = record { store = c.facts.ensures; delaunay = h.delaunay; data_point = h.data_point } in
    let t = tetrahedron_from c.args.from.now.vertices in
    let here =
    at_vertex (vertices_of s) r.vertex (displaced o) t c.side_entered-side.result c.side_entered-side.ensures
    (omega (arith, c.if-side-eq-NO_SIDE.true)) in
    let there : is_towards (vertices_of s) r.vertex (displaced o) ((links_of s.slots).at y) ≡ true =
    subst (λ (u : Tetrahedron). is_towards (vertices_of s) r.vertex (displaced o) u ≡ true) h.from.vertices here in
    let z = ended s o r y scene h.ray there id k m b in
    omega (arith, z))

pub cross-requires-clause-room : goal.cross-requires-clause-room
cross-requires-clause-room c =
    let s = c.args.view.now.t.now in let o = c.args.view.now.s in let r = c.args.ray.now in let h = c.requires in let y = c.args.from.now.cell in
    let scene : IsScene s o = record { store = c.facts.ensures; delaunay = h.delaunay; data_point = h.data_point } in
    let t = tetrahedron_from c.args.from.now.vertices in let j = c.side_entered-side.result in
    let z =
    through_side (vertices_of s) r.vertex (displaced o) t j c.side_entered-side.ensures
    (λ (e : j ≡ 4). omega (arith, e, c.if-side-eq-NO_SIDE.false)) in
    let there : is_crossed (vertices_of s) r.vertex (displaced o) (facet_of ((links_of s.slots).at y) j) ≡ true =
    subst (λ (u : Tetrahedron). is_crossed (vertices_of s) r.vertex (displaced o) (facet_of u j) ≡ true) h.from.vertices z.1 in
    let w = went s o r y j scene h.ray z.0 there in
    let a = at_least s o r y j w.0 w.1 h.ray.live z.0 in
    let room = h.room j z.0 in
    omega (arith, a, room)
