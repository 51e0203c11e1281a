use Rattle.std.proofs.Common.{ℕ, ◌≡◌, ◌≢◌, ◌∙◌, sym, slice_index}
use Rattle.geo_sign.specs.Rational.{displaced}
use Rattle.geo_sign.specs.Tetrahedron.{vertex_of}
use Rattle.tetra_store.specs.Links.{tetrahedron_from}
use Rattle.tetra_store.specs.Store.{vertices_of}
use Rattle.tetra_store.proofs.Keeps.{vertex_index}
use Rattle.beam.specs.Ways.{IsAhead}
use Rattle.beam.proofs.Sides.{not_so, edge_of, begins, triple_first, triple_third, triple_second, triple_first_too}
use Rattle.beam.proofs.ways.three_ways.Goals as goal

pub returns : goal.returns
returns c =
    let r = c.requires in let u = c.args.turn in let s = c.args.t.now in let o = c.args.s in
    let v = vertices_of s in let q = displaced o in let t = tetrahedron_from c.args.v in
    let f = c.plane_at in let g = c.plane_at-2 in let h = c.plane_at-3 in
    let n : ¬ IsAhead v q t u.around = not_so _ r.around (r.ahead u.around r.turn.around_in) in
    let d = edge_of s c.args.v u.around u.first o f.result r.turn.around_in r.turn.first_in f.ensures in
    let e = edge_of s c.args.v u.around u.second o g.result r.turn.around_in r.turn.second_in g.ensures in
    let k = edge_of s c.args.v u.around u.third o h.result r.turn.around_in r.turn.third_in h.ensures in
    let same : vertex_of t u.around ≡ slice_index c.args.v u.around = vertex_index c.args.v u.around r.turn.around_in in
    let other : (p : ℕ) → p ≢ slice_index c.args.v u.around → p ≢ vertex_of t u.around = λ p m i. m (i ∙ same) in
    record {
      planes = ((f.ensures.kept, g.ensures.kept, h.ensures.kept), (f.ensures.same.0, g.ensures.same.0, h.ensures.same.0));
      begins = λ p on i. begins v q t u r.cell r.turn n p on (i ∙ sym same);
      first = λ p on i.
          triple_first v q t u f.result g.result r.cell r.turn n d e p on (other p i.0, i.1, i.2);
      third = λ p on i.
          triple_third v q t u f.result g.result r.cell r.turn n d e p on (other p i.0, i.1, i.2);
      second = λ p on i.
          triple_second v q t u f.result h.result r.cell r.turn n d k p on (other p i.0, i.1, i.2);
      first_too = λ p on i.
          triple_first_too v q t u f.result h.result r.cell r.turn n d k p on (other p i.0, i.1, i.2);
    }
