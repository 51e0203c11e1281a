-- The test for conflict of geo_tie, over a cell of the store.
--
-- The four vertices of a live cell and one that is not in are five points, distinct and below the number of vertices
-- (beside, apart, all_below), as `conflict` asks. The power of the points is that of the vertices (power_same), so where the
-- test says yes the cell is in conflict, and where it says no it is clear of the vertex (outside).
use Rattle.std.proofs.Common.{◌↔◌, IsTrue, IsFalse, sym, ap, subst, arith, length, ℤ, pos, ◌<ℤ◌, ◌≤ℤ◌}
use Rattle.geo_sign.specs.Tetrahedron.{Tetrahedron}
use Rattle.tetra_store.specs.Links.{vertices_in, tetrahedron_from}
use Rattle.tetra_store.specs.Store.{vertices_of}
use Rattle.geo_sign.specs.Boxes.{IsInConflict, IsClearOf}
use Rattle.cavity.proofs.Stores.{beside, apart, all_below, power_same, outside}
use Rattle.cavity.proofs.flood.is_in_conflict.Goals as goal

pub point-requires : goal.point-requires
point-requires c =
    (beside c.args.t.now c.args.p c.args.id c.cell.result c.facts.ensures c.requires.out c.cell.ensures).below 0 (omega arith)

pub point-requires-2 : goal.point-requires-2
point-requires-2 c =
    (beside c.args.t.now c.args.p c.args.id c.cell.result c.facts.ensures c.requires.out c.cell.ensures).below 1 (omega arith)

pub point-requires-3 : goal.point-requires-3
point-requires-3 c =
    (beside c.args.t.now c.args.p c.args.id c.cell.result c.facts.ensures c.requires.out c.cell.ensures).below 2 (omega arith)

pub point-requires-4 : goal.point-requires-4
point-requires-4 c =
    (beside c.args.t.now c.args.p c.args.id c.cell.result c.facts.ensures c.requires.out c.cell.ensures).below 3 (omega arith)

pub conflict-requires-clause-apart : goal.conflict-requires-clause-apart
conflict-requires-clause-apart c =
    apart c.args.t.now c.args.p (tetrahedron_from c.cell.result.v) c.point.result c.point-2.result c.point-3.result
    c.point-4.result c.point-5.result
    (beside c.args.t.now c.args.p c.args.id c.cell.result c.facts.ensures c.requires.out c.cell.ensures)

pub returns : goal.returns
returns c =
    let s = c.args.t.now in
    let p = c.args.p in
    let t = tetrahedron_from c.cell.result.v in
    let h = beside s p c.args.id c.cell.result c.facts.ensures c.requires.out c.cell.ensures in
    let b =
    all_below s p t c.point.result c.point-2.result c.point-3.result c.point-4.result c.point-5.result h c.requires.below in
    let e =
    power_same s p t c.point.result c.point-2.result c.point-3.result c.point-4.result c.point-5.result c.point.ensures
    c.point-2.ensures c.point-3.ensures c.point-4.ensures c.point-5.ensures in
    let at = sym (ap vertices_in c.cell.ensures) in
    let i : IsTrue c.conflict.result ↔ IsInConflict (vertices_of s) p t =
    subst (λ (z : ℤ). IsTrue c.conflict.result ↔ (z <ℤ pos 0)) e (c.conflict.ensures.inside (length s.points) b) in
    let o : IsFalse c.conflict.result ↔ IsClearOf (vertices_of s) p t =
    subst (λ (z : ℤ). IsFalse c.conflict.result ↔ (pos 0 ≤ℤ z)) e
    (outside c.conflict.result _ (c.conflict.ensures.inside (length s.points) b)
    (c.conflict.ensures.outside (length s.points) b)) in
    record {
      inside = subst (λ (u : Tetrahedron). IsTrue c.conflict.result ↔ IsInConflict (vertices_of s) p u) at i;
      outside = subst (λ (u : Tetrahedron). IsFalse c.conflict.result ↔ IsClearOf (vertices_of s) p u) at o;
    }
