-- The six cells of the box as a store of all points, of which the corners alone are inserted.
--
-- The points are the corners and then those of the call, and there are as many flags and kept cells as points. A corner
-- keeps one of the six cells, read in the list of their numbers (keeps). That such parts are a store is box_store, and
-- that their cells are the Delaunay cells of the corners is box_is_delaunay.
use Rattle.std.proofs.Common.{ℕ, ◌≡◌, ◌<◌, ◌++◌, List, length, ap, sym, ◌∙◌, subst, arith, slice_index, vec_capacity}
use Rattle.geo_sign.specs.declared.point.TheConstants.{CORNERS}
use Rattle.slab.specs.Slab.{slab_len}
use Rattle.geo_sign.specs.Point.{Point}
use Rattle.geo_sign.specs.Vertices.{corners}
use Rattle.tetra_store.specs.Links.{links_of}
use Rattle.tetra_store.specs.Store.{IsStore, vertices_at, spare_room}
use Rattle.tetra_store.specs.Box.{box_keeper}
use Rattle.tetra_store.specs.Delaunay.{IsDelaunay}
use Rattle.tetra_store.proofs.BoxStore.{box_store, box_is_delaunay}
use Rattle.tetra_store.proofs.store.Tetra.with_box.Goals as goal

pub invariant_of-result : goal.invariant_of-result
invariant_of-result c =
    let points = c.args.points.now in
    let all_is = c.in_ok-all.ensures in
    let flags = c.in_ok-inserted.inserted.items in
    let kept = c.in_ok-kept.kept.items in
    let slots = c.in_ok-cells.cells.slots in
    let ids = c.in_ok-cells.ids.items in
    let keeps : (u : ℕ) → u < CORNERS → slice_index kept u ≡ slice_index ids (box_keeper u) =
    λ u l. c.in_ok-kept.ensures.kept u l ∙ ap (λ (xs : List ℕ). slice_index xs (box_keeper u)) c.deref.ensures.value in
    let spare =
    spare_room c.in_ok-cells.cells.capacity (slab_len c.in_ok-cells.cells) (vec_capacity c.in_ok-cells.ids)
    (vec_capacity c.new.result) in
    let n : length c.in_ok-all.all.items ≡ length (corners ++ points) = ap length all_is in
    let f : length flags ≡ length (corners ++ points) =
    omega (arith, c.in_ok-inserted.ensures.count, c.len.ensures, c.in_ok-all.all.ok.0) in
    let k : length kept ≡ length (corners ++ points) =
    omega (arith, c.in_ok-kept.ensures.count, c.len-2.ensures, c.in_ok-all.all.ok.0) in
    let capacity = c.in_ok-cells.cells.capacity in
    subst
    (λ (z : List Point).
    IsStore (record { points = z; inserted = flags; slots = slots; kept = kept; spare = spare; capacity = capacity }))
    (sym all_is)
    (box_store points c.requires.within c.requires.distinct c.requires.few flags c.in_ok-inserted.ensures.flags slots ids kept
    c.in_ok-cells.ensures.cells keeps spare capacity f k)

pub returns-clause-cells : goal.returns-clause-cells
returns-clause-cells c =
    let points = c.args.points.now in
    let flags = c.in_ok-inserted.inserted.items in
    let kept = c.in_ok-kept.kept.items in
    let slots = c.in_ok-cells.cells.slots in
    let ids = c.in_ok-cells.ids.items in
    let keeps : (u : ℕ) → u < CORNERS → slice_index kept u ≡ slice_index ids (box_keeper u) =
    λ u l. c.in_ok-kept.ensures.kept u l ∙ ap (λ (xs : List ℕ). slice_index xs (box_keeper u)) c.deref.ensures.value in
    subst (λ (z : List Point). IsDelaunay (vertices_at z flags) (links_of slots)) (sym c.in_ok-all.ensures)
    (box_is_delaunay points c.requires.within c.requires.distinct c.requires.few flags c.in_ok-inserted.ensures.flags slots ids
    kept c.in_ok-cells.ensures.cells keeps)
