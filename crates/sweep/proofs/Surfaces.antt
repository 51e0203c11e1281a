-- The surface and the cost that the fields of a sweep keep: flow and labels are a cut of the scene's cells (`solution`).
use Rattle.std.proofs.Common.{ℕ, ◌≡◌, ◌<◌, ◌++◌, ◌^◌, refl, sym, subst, ◌∙◌, Bool, List}
use Rattle.cell_net.specs.Shape.{numbered_with}
use Rattle.flow_net.specs.Nets.{flag_at}
use Rattle.flow_net.specs.NumberedFlows.{cost_of}
use Rattle.flow_net.specs.declared.Flow.{Flow}
use Rattle.flow_net.specs.declared.Labels.{Labels}
use Rattle.flow_net.specs.declared.votes.Settings.{Settings}
use Rattle.flow_net.specs.declared.votes.Sight.{Sight}
use Rattle.geo_sign.specs.Point.{Point}
use Rattle.geo_sign.specs.Vertices.{corners}
use Rattle.mesh.specs.Meshes.{mesh_of}
use Rattle.mesh.specs.declared.mesh.Mesh.{Mesh}
use Rattle.solution.specs.MinimumCuts.{IsCutOf}
use Rattle.solution.specs.declared.cutting.MinimumCut.{MinimumCut}
use Rattle.solution.proofs.CellCuts.{cut_is, cost_fits as cut_fits}
use Rattle.solution.specs.Solutions.{surface_of}
use Rattle.solution.proofs.Meshes.{mesh_is}
use Rattle.surface.specs.Labelled.{AreLabelsOver}
use Rattle.surface.proofs.ListedLabels.{labels_over}
use Rattle.tetra_store.specs.Store.{Store}
use Rattle.visibility.specs.Complexes.{Complex}
use Rattle.visibility.specs.Cuts.{cut_facets}
use Rattle.visibility.specs.Listings.{AgreeInAnyOrder}
use Rattle.visibility.specs.Scenes.{Scene, scene_of}
use Rattle.visibility.proofs.ListingAgreements.{with_rising}
use Rattle.cell_net.specs.StoredComplexes.{stored_complex}
use Rattle.sweep.specs.Entries.{CostsLeast, AreBestLabels, IsSurfaceOf}
use Rattle.sweep.specs.Swept.{IsKept}
use Rattle.sweep.proofs.Scenes.{scene_kept}

module _ (points scanners : List Point) (sights : List Sight) (settings : Settings) (store : Store) (crossed behind : List ℕ)
    (fixed : List Bool) (flow : Flow) (labels : Labels)
    (kept : IsKept points scanners sights settings store crossed behind fixed flow labels) where
  abbrev scene : Scene
  scene = scene_of points scanners sights settings

  abbrev cost : ℕ
  cost = cost_of (numbered_with store.slots crossed behind fixed settings kept.shape) labels

  abbrev cut : MinimumCut
  cut = record { labels = labels; flow = flow; cost = cost }

  pub is : IsCutOf scene store.slots cut
  is =
      cut_is scene store.slots crossed behind fixed settings kept.counts kept.shape refl flow labels cost kept.largest.valid kept.least
      kept.equal refl

  abbrev pub rising : Complex
  rising = is.listing.complex

  abbrev pub inside : List ℕ → Bool
  inside = is.inside

  order : AgreeInAnyOrder scene (stored_complex is.fixed store.slots) rising
  order = with_rising scene (stored_complex is.fixed store.slots) is.listing

  best : AreBestLabels scene rising inside
  best = record { complex_is = is.listing.complex_is; least = (order.least_inside inside).0 is.least }

  -- what the labels cost
  pub costs : CostsLeast scene cost
  costs = record { complex = rising; inside = inside; best = best; cost_is = is.cost_is ∙ order.cost_is inside }

  -- it is small
  pub cost_fits : cost < 2 ^ 47
  cost_fits =
      cut_fits kept.scan settings store.slots cut kept.shown
      (subst (λ (s : Scene). IsCutOf s store.slots cut)
      (sym (scene_kept kept.scan points scanners sights settings kept.points_are kept.scanners_are kept.sights_are)) is)

  -- the labels are those of the scene's cells, whatever their list is called
  pub labelled : (given : List Bool) → given ≡ labels.inside
      → AreLabelsOver scene rising store.slots (flag_at given) inside
  labelled given same =
      labels_over scene (stored_complex is.fixed store.slots) store.slots given labels.inside inside kept.counts.cells is.listing same
      is.labels_say is.least.least_cost.admissible

  -- the mesh of the labels is the surface
  pub surface_is : (mesh : Mesh) → mesh.points.items ≡ (mesh_of store.points (cut_facets scene.vertices rising inside)).points
      → mesh.faces.items ≡ (mesh_of store.points (cut_facets scene.vertices rising inside)).faces
      → IsSurfaceOf scene points (surface_of mesh)
  surface_is mesh points_are faces_are =
      record {
        complex = rising;
        inside = inside;
        best = best;
        mesh_is =
            mesh_is mesh store.points (corners ++ points) (cut_facets scene.vertices rising inside) kept.stored points_are
            faces_are;
      }
