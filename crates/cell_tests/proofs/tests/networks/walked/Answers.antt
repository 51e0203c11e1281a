-- The sights of a scene whose points are all in the built store are in range of it (`sights_in_range`).
--
-- The cells that `count_votes` tells are those of the scene's rising list, so they are all live cells, each once (`all_live`). Labels of the
-- network's nodes are those of a test of cells, which puts no fixed cell inside where the labels do not (`over`), so they can be cut.
use Rattle.std.proofs.Common.{ℕ, ◌≡◌, ◌<◌, refl, sym, ap, subst, ◌∙◌, true, false, Bool, List, Option, map, length, slice_index_or}
use Rattle.std.proofs.lemmas.List.{get_or_default, length-map}
use Rattle.geo_sign.specs.Point.{Point, origin, IsWithin}
use Rattle.geo_sign.specs.declared.point.TheConstants.{DATA_LIMIT}
use Rattle.flow_net.specs.declared.Labels.{Labels}
use Rattle.flow_net.specs.declared.votes.Settings.{Settings}
use Rattle.flow_net.specs.declared.votes.Sight.{Sight}
use Rattle.flow_net.specs.declared.Voted.{Voted}
use Rattle.flow_net.specs.Flows.{IsAdmissible}
use Rattle.visibility.specs.Laws.{test_of}
use Rattle.plain_net.specs.Networks.{complex_of, IsNetworkOf}
use Rattle.visibility.specs.Scenes.{Scene, scene_of}
use Rattle.visibility.specs.Votes.{is_fixed}
use Rattle.visibility.proofs.Indices.{map_of_indices, once_rising}
use Rattle.plain_net.proofs.Numbers.{admissible_over}
use Rattle.tetra_store.specs.declared.link.Cell.{Cell}
use Rattle.tetra_store.specs.Delaunay.{IsDelaunay}
use Rattle.tetra_store.specs.Links.{links_of}
use Rattle.tetra_store.specs.Store.{Store, IsStore, data_points_of, vertices_of}
use Rattle.tetra_store.proofs.DataPoints.{corners_first}
use Rattle.cell_net.specs.Counts.{AreCellsOf, AreIdsOf}
use Rattle.cell_net.proofs.Stored.{stored_cells_law}
use Rattle.solution.proofs.Scenes.{sights_in_range}
use Rattle.surface.specs.Labelled.{AreAllLive, AreLabelsOver, NoneHasCorner, listed_label}
use Rattle.surface.proofs.CutList.{can_be_cut}
use Rattle.surface.proofs.ListedLabels.{all_live, listed_over}
use Rattle.cell_tests.proofs.tests.networks.walked.Goals as goal

pub count_votes-requires-clause-scanners : goal.count_votes-requires-clause-scanners
count_votes-requires-clause-scanners c =
    λ k d l. subst (λ (p : Point). IsWithin DATA_LIMIT p) (get_or_default c.args.scene.now.scanners.now k origin d l)
    (c.if-not-are_data-2.ensures refl k l)

pub count_votes-requires-clause-sights : goal.count_votes-requires-clause-sights
count_votes-requires-clause-sights c =
    sights_in_range c.in_ok-t.t c.args.scene.now c.facts.ensures
    (record {
      points = c.in_ok-t.ensures.points;
      inserted = c.in_ok-t.ensures.inserted;
      delaunay = c.in_ok-t.ensures.delaunay;
    })
    (record {
      sights = c.are_in_range.ensures c.if-not-are_in_range.false;
      few_sights = c.are_sights.ensures.0 (c.if-not-are_sights.false);
      data_points =
          λ k d l. subst (λ (p : Point). IsWithin DATA_LIMIT p) (get_or_default c.args.scene.now.scanners.now k origin d l)
          (c.if-not-are_data-2.ensures refl k l);
    })

pub count_votes-requires-clause-few : goal.count_votes-requires-clause-few
count_votes-requires-clause-few c = c.are_sights.ensures.0 (c.if-not-are_sights.false)

-- as many labels as nodes
label_count : (s : Scene) (voted : Voted) (labels : Labels) → IsNetworkOf s voted → IsAdmissible voted.net labels
    → length labels.inside ≡ length voted.cells
label_count s voted labels network admissible =
    admissible.count ∙ ap length network.fixed_is ∙ length-map voted.cells (is_fixed s.vertices s.scanners)

-- labels of the nodes are over the scene
over : (s : Scene) (slots : List (Option Cell)) (voted : Voted) (ids : List ℕ) (labels : Labels) → AreCellsOf s slots
    → IsNetworkOf s voted → AreIdsOf slots voted.cells ids → IsAdmissible voted.net labels
    → AreLabelsOver s (complex_of voted) slots (listed_label ids labels.inside) (test_of voted.cells labels.inside)
over s slots voted ids labels cells network are admissible =
    let is : map (test_of voted.cells labels.inside) voted.cells ≡ labels.inside =
    map_of_indices voted.cells labels.inside false (once_rising voted.cells network.complex_is.cells_are.rising)
    (label_count s voted labels network admissible) in
    listed_over s slots cells (complex_of voted) network.complex_is ids are labels.inside
    (admissible_over s voted (test_of voted.cells labels.inside) network
    (subst (λ (flags : List Bool). IsAdmissible voted.net (record { inside = flags })) (sym is) admissible))

-- the store has the cells of the scene of its data points
cells : (s : Store) (scanners : List Point) (sights : List Sight) (settings : Settings) → IsStore s
    → ((u : ℕ) → u < length s.points → slice_index_or s.inserted u false ≡ true)
    → IsDelaunay (vertices_of s) (links_of s.slots)
    → AreCellsOf (scene_of (data_points_of s) scanners sights settings) s.slots
cells s scanners sights settings store inserted delaunay =
    stored_cells_law s (data_points_of s) store (corners_first s store) delaunay inserted scanners sights settings

pub facets-requires-clause-ids : goal.facets-requires-clause-ids
facets-requires-clause-ids c =
    let t = c.in_ok-t.t in
    let scene = c.args.scene.now in
    let voted = c.in_ok-counted.counted.voted in
    subst (λ (ids : List ℕ). AreAllLive t.slots ids) (sym c.deref.ensures.value)
    (all_live (scene_of (data_points_of t) scene.scanners.now scene.sights.now scene.settings) t.slots
    (cells t scene.scanners.now scene.sights.now scene.settings c.facts.ensures c.in_ok-t.ensures.inserted
    c.in_ok-t.ensures.delaunay)
    (complex_of voted) c.in_ok-counted.ensures.network.complex_is c.in_ok-counted.counted.ids.items c.in_ok-counted.ensures.ids)

pub facets-requires-clause-labels : goal.facets-requires-clause-labels
facets-requires-clause-labels c =
    let t = c.in_ok-t.t in
    let scene = c.args.scene.now in
    let voted = c.in_ok-counted.counted.voted in
    label_count (scene_of (data_points_of t) scene.scanners.now scene.sights.now scene.settings) voted c.in_ok-labels.labels
    c.in_ok-counted.ensures.network c.in_ok-labels.ensures
    ∙ sym c.in_ok-counted.ensures.ids.count ∙ ap length (sym c.deref.ensures.value)

pub facets-requires-clause-corners : goal.facets-requires-clause-corners
facets-requires-clause-corners c =
    let t = c.in_ok-t.t in
    let scene = c.args.scene.now in
    let voted = c.in_ok-counted.counted.voted in
    let labels = c.in_ok-labels.labels in
    subst (λ (ids : List ℕ). NoneHasCorner t.slots (listed_label ids labels.inside)) (sym c.deref.ensures.value)
    (can_be_cut (scene_of (data_points_of t) scene.scanners.now scene.sights.now scene.settings) (complex_of voted) t.slots
    (listed_label c.in_ok-counted.counted.ids.items labels.inside) (test_of voted.cells labels.inside)
    (over (scene_of (data_points_of t) scene.scanners.now scene.sights.now scene.settings) t.slots voted
    c.in_ok-counted.counted.ids.items labels
    (cells t scene.scanners.now scene.sights.now scene.settings c.facts.ensures c.in_ok-t.ensures.inserted
    c.in_ok-t.ensures.delaunay)
    c.in_ok-counted.ensures.network c.in_ok-counted.ensures.ids c.in_ok-labels.ensures))
