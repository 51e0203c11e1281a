use Rattle.geo_sign.specs.Rational.{displaced}
use Rattle.tetra_store.specs.Links.{tetrahedron_from}
use Rattle.tetra_store.specs.Store.{vertices_of}
use Rattle.beam.specs.Ways.{IsAhead}
use Rattle.beam.proofs.Sides.{not_so, edge_of, one_way, other_way, pair_before, pair_behind}
use Rattle.beam.proofs.ways.two_ways.Goals as goal

pub returns-then-not-ahead-turn : goal.returns-then-not-ahead-turn
returns-then-not-ahead-turn c =
    let r = c.requires in let u = c.args.turn in
    one_way (vertices_of c.args.t.now) (displaced c.args.s) (tetrahedron_from c.args.v) u r.cell r.turn
    (not_so _ r.around (r.ahead u.around r.turn.around_in)) (not_so _ r.first (r.ahead u.first r.turn.first_in))
    (not_so _ c.if-not-ahead-turn.true (r.ahead u.second r.turn.second_in))

pub returns-then-not-ahead-turn-2 : goal.returns-then-not-ahead-turn-2
returns-then-not-ahead-turn-2 c =
    let r = c.requires in let u = c.args.turn in
    other_way (vertices_of c.args.t.now) (displaced c.args.s) (tetrahedron_from c.args.v) u r.cell r.turn
    (not_so _ r.around (r.ahead u.around r.turn.around_in)) (not_so _ r.first (r.ahead u.first r.turn.first_in))
    (not_so _ c.if-not-ahead-turn-2.true (r.ahead u.third r.turn.third_in))

pub returns : goal.returns
returns c =
    let r = c.requires in let u = c.args.turn in let w = c.plane_at in let s = c.args.t.now in let o = c.args.s in
    let v = vertices_of s in let t = tetrahedron_from c.args.v in
    let hidden : ¬ IsAhead v (displaced o) t u.around = not_so _ r.around (r.ahead u.around r.turn.around_in) in
    let first : ¬ IsAhead v (displaced o) t u.first = not_so _ r.first (r.ahead u.first r.turn.first_in) in
    let e = edge_of s c.args.v u.around u.first o w.result r.turn.around_in r.turn.first_in w.ensures in
    record {
      plane = (w.ensures.kept, w.ensures.same.0);
      before = pair_before v (displaced o) t u w.result r.cell r.turn hidden first e;
      behind = pair_behind v (displaced o) t u w.result r.cell r.turn hidden first e;
    }
