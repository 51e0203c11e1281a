use Rattle.std.proofs.Common.{ap, ◌∙◌, get_or}
use Rattle.geo_sign.specs.Point.{origin}
use Rattle.geo_sign.specs.Rational.{displaced}
use Rattle.geo_sign.specs.Tetrahedron.{DirectedFacet, facet_of}
use Rattle.tetra_store.specs.Links.{tetrahedron_from}
use Rattle.tetra_store.specs.Store.{vertices_of}
use Rattle.beam.proofs.Sides.{crossing_is, crossing_of}
use Rattle.beam.proofs.ways.is_through.Goals as goal

pub returns : goal.returns
returns c =
    let s = c.args.t.now in let r = c.args.ray.now in let q = displaced c.args.s in
    let f = facet_of (tetrahedron_from c.args.v) c.args.k in
    let a = c.point.ensures ∙ ap (λ (g : DirectedFacet). get_or s.points g.a origin) c.facet.ensures in
    let b = c.point-2.ensures ∙ ap (λ (g : DirectedFacet). get_or s.points g.b origin) c.facet.ensures in
    let d = c.point-3.ensures ∙ ap (λ (g : DirectedFacet). get_or s.points g.c origin) c.facet.ensures in (
      λ t. crossing_is (vertices_of s) r.vertex q f c.point.result c.point-2.result c.point-3.result r.point a b d
          c.requires.ray.point (c.crosses.ensures.0 t),
      λ h. c.crosses.ensures.1
          (crossing_of (vertices_of s) r.vertex q f c.point.result c.point-2.result c.point-3.result r.point a b d
          c.requires.ray.point h),
    )
