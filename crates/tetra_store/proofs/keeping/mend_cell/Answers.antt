-- Vertex after vertex of the cell: one that keeps the cell is given another that is not among those of the list, one that keeps another is
-- left. What the code reads of the slab is vertex k of the cell (cell_vertices), so the index is below the number of kept cells. A vertex
-- that keeps the cell at its turn kept it at the beginning: what was written before is a cell outside of the list, and this one is in it
-- (was_kept). So what is asked of such vertices at the beginning, that a cell outside has them, is what find_outside asks. What is mended
-- up to k is mended up to k + 1 by this write (mended_write), or with none, where the vertex keeps another (mended_skip).
use Rattle.std.proofs.Common.{ℕ, ◌≡◌, ◌≢◌, ◌<◌, ◌+◌, List, length, Some, sym, ◌∙◌, subst, arith, slice_index}
use Rattle.geo_sign.specs.Tetrahedron.{vertex_of}
use Rattle.tetra_store.specs.Links.{links_of, slot_at}
use Rattle.tetra_store.specs.Fan.{IsHeld}
use Rattle.tetra_store.specs.Steps.{IsMendedAt, IsOutsideWith}
use Rattle.tetra_store.proofs.Keeps.{cell_vertices, was_kept, mended_skip, mended_write, keeps_it, keeps_other}
use Rattle.tetra_store.proofs.keeping.mend_cell.Goals as goal
use Rattle.tetra_store.proofs.keeping.mend_cell.Goals.{then-eq, else-eq}

pub bounds-kept-v : goal.bounds-kept-v
bounds-kept-v c =
    let is : slot_at c.args.cells.now.slots c.args.id ≡ Some c.index.result.now = rw c.number.ensures at c.index.ensures in
    let v =
    cell_vertices c.args.cells.now.slots c.args.id c.index.result.now c.vertices-v.result is c.vertices-v.ensures c.loop-k.k
    c.loop-k-test.true in
    omega (arith, v, c.requires.vertices c.loop-k.k c.loop-k-test.true, c.loop-k.invariant.count)

pub bounds-kept-v-then-eq : goal.bounds-kept-v-then-eq
bounds-kept-v-then-eq c =
    let is : slot_at c.args.cells.now.slots c.args.id ≡ Some c.index.result.now = rw c.number.ensures at c.index.ensures in
    let v =
    cell_vertices c.args.cells.now.slots c.args.id c.index.result.now c.vertices-v.result is c.vertices-v.ensures c.loop-k.k
    c.loop-k-test.true in
    omega (arith, v, c.requires.vertices c.loop-k.k c.loop-k-test.true, c.loop-k.invariant.count)

pub find_outside-requires-clause-held : goal.find_outside-requires-clause-held
find_outside-requires-clause-held c =
    let slots = c.args.cells.now.slots in
    let links = links_of slots in
    let old = c.args.old.now in
    let k = c.loop-k.k in
    let is : slot_at slots c.args.id ≡ Some c.index.result.now = rw c.number.ensures at c.index.ensures in
    let v = cell_vertices slots c.args.id c.index.result.now c.vertices-v.result is c.vertices-v.ensures k c.loop-k-test.true in
    let u = vertex_of (links.at c.args.id) k in
    let l : slice_index c.vertices-v.result k < length c.loop-k.kept =
    omega (arith, v, c.requires.vertices k c.loop-k-test.true, c.loop-k.invariant.count) in
    let now : slice_index c.loop-k.kept (slice_index c.vertices-v.result k) ≡ c.args.id =
    keeps_it c.loop-k.kept (slice_index c.vertices-v.result k) c.index-kept-v.result c.id.result c.args.id l
    (c.id.ensures ∙ c.index-kept-v.is) c.if-eq.ensures in
    let now' : slice_index c.loop-k.kept u ≡ c.args.id =
    subst (λ (z : ℕ). slice_index c.loop-k.kept z ≡ c.args.id) (sym v) now in
    let was = was_kept links old c.args.kept.now c.loop-k.kept u c.args.id (c.loop-k.invariant.each u) c.requires.listed now' in
    subst (λ (z : ℕ). IsHeld links old z) v (c.requires.held k c.loop-k-test.true was)

pub loop-k-preserved : goal.loop-k-preserved
loop-k-preserved c =
    let slots = c.args.cells.now.slots in
    let links = links_of slots in
    let old = c.args.old.now in
    let k = c.loop-k.k in
    let is : slot_at slots c.args.id ≡ Some c.index.result.now = rw c.number.ensures at c.index.ensures in
    let v = cell_vertices slots c.args.id c.index.result.now c.vertices-v.result is c.vertices-v.ensures k c.loop-k-test.true in
    let l : slice_index c.vertices-v.result k < length c.loop-k.kept =
    omega (arith, v, c.requires.vertices k c.loop-k-test.true, c.loop-k.invariant.count) in
    elim c.if-eq.branch [
      | then-eq w ↦ subst (λ (z : List ℕ). IsMendedAt links old c.args.kept.now z c.args.id (k + 1)) (sym w.kept-is)
          (mended_write links old c.args.kept.now c.loop-k.kept c.args.id k (slice_index c.vertices-v.result k) w.new.result
          c.loop-k.invariant c.requires.listed c.loop-k-test.true (sym v) l
          (subst (λ (z : ℕ). IsOutsideWith links old (slice_index c.vertices-v.result k) z) (sym w.new.ensures)
          w.find_outside.ensures.outside))
      | else-eq w ↦
          let other =
          keeps_other c.loop-k.kept (slice_index c.vertices-v.result k) c.index-kept-v.result c.id.result c.args.id l
          (c.id.ensures ∙ c.index-kept-v.is) w.if-eq.ensures in
          subst (λ (z : List ℕ). IsMendedAt links old c.args.kept.now z c.args.id (k + 1)) (sym w.kept-is)
          (mended_skip links old c.args.kept.now c.loop-k.kept c.args.id k c.loop-k.invariant
          (subst (λ (z : ℕ). slice_index c.loop-k.kept z ≢ c.args.id) (sym v) other))
    ]
