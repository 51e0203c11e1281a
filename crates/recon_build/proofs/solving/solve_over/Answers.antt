-- The labels by number are labels of the scene's cells, whatever their list is called (over), so the facets between inside and outside can
-- be cut from the store. The mesh is that of these facets in the rising complex of the scene, over the points of the store, which are the
-- corners and the scan's points (mesh_is). The certificate is of this cut, over the same complex. So mesh and certificate are one solution,
-- and the certificate is well formed.
use Rattle.std.proofs.Common.{◌≡◌, ◌++◌, List, Bool}
use Rattle.flow_net.specs.Nets.{flag_at}
use Rattle.geo_sign.specs.Vertices.{corners}
use Rattle.scan_rows.specs.Shown.{Shown}
use Rattle.scan_rows.specs.Views.{shown_of}
use Rattle.solution.specs.Scans.{points_of, scene_of_scan}
use Rattle.solution.proofs.Meshes.{mesh_is}
use Rattle.surface.specs.Labelled.{AreLabelsOver}
use Rattle.surface.proofs.CutList.{can_be_cut}
use Rattle.surface.proofs.ListedLabels.{labels_over}
use Rattle.tetra_store.specs.Store.{Store}
use Rattle.visibility.specs.Scenes.{Scene}
use Rattle.visibility.proofs.ListingAgreements.{with_rising}
use Rattle.cell_net.specs.Counts.{AreCellsOf}
use Rattle.cell_net.specs.StoredComplexes.{stored_complex}
use Rattle.solution.specs.MinimumCuts.{IsCutOf}
use Rattle.solution.specs.declared.cutting.MinimumCut.{MinimumCut}
use Rattle.recon_build.proofs.solving.solve_over.Goals as goal

-- the labels are those of the scene's cells, whatever their list is called
over : (s : Scene) (store : Store) (cut : MinimumCut) (given : List Bool) → AreCellsOf s store.slots
    → (is : IsCutOf s store.slots cut) → given ≡ cut.labels.inside
    → AreLabelsOver s is.listing.complex store.slots (flag_at given) is.inside
over s store cut given cells is same =
    labels_over s (stored_complex is.fixed store.slots) store.slots given cut.labels.inside is.inside cells is.listing same
    is.labels_say is.least.least_cost.admissible

pub facets_by_number-requires : goal.facets_by_number-requires
facets_by_number-requires c =
    let s : Scene = scene_of_scan (shown_of c.args.scan.now) c.args.settings in
    can_be_cut _ _ _ _ _ (over s c.args.tetra c.args.cut _ c.requires.cells c.requires.cut c.as_slice.ensures)

pub returns-clause-solution : goal.returns-clause-solution
returns-clause-solution c =
    let scan : Shown = shown_of c.args.scan.now in
    let s : Scene = scene_of_scan scan c.args.settings in
    let is = c.requires.cut in
    let lists = is.listing in
    let labels = over s c.args.tetra c.args.cut _ c.requires.cells is c.as_slice.ensures in
    record {
      complex = lists.complex;
      inside = is.inside;
      complex_is = lists.complex_is;
      least = ((with_rising s (stored_complex is.fixed c.args.tetra.slots) lists).least_inside is.inside).0 is.least;
      mesh_is =
          mesh_is c.in_ok-mesh.mesh c.args.tetra.points (corners ++ points_of scan) _ c.requires.store.points
          (c.in_ok-mesh.ensures.points s lists.complex is.inside labels)
          (c.in_ok-mesh.ensures.faces s lists.complex is.inside labels);
      counts = c.in_ok-cert.ensures.counts;
      certificate = c.in_ok-cert.ensures.states is;
    }

pub returns-clause-well_formed : goal.returns-clause-well_formed
returns-clause-well_formed c = c.in_ok-cert.ensures.well_formed c.requires.cut
