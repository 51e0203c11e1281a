-- The labels that were shown best are those of the scene's cells, and no fixed cell is inside, so their facets can be cut (labels_over).
-- The mesh of these is the surface of the labels, over the corners and the points of the scan, which the store has in this order.
use Rattle.std.proofs.Common.{◌++◌}
use Rattle.certificate.specs.Certificates.{claim_of}
use Rattle.geo_sign.specs.Vertices.{corners}
use Rattle.scan_rows.specs.Views.{shown_of}
use Rattle.solution.specs.Scans.{points_of, scene_of_scan}
use Rattle.solution.proofs.Meshes.{mesh_is}
use Rattle.surface.proofs.CutList.{can_be_cut}
use Rattle.recon_check.specs.Answers.{IsFault}
use Rattle.recon_check.proofs.BestLabels.{labels_over}
use Rattle.recon_check.proofs.Stopped.{passed_on}
use Rattle.recon_check.proofs.checking.best_surface.Goals as goal

pub returns-in_err-labels-clause-fault : goal.returns-in_err-labels-clause-fault
returns-in_err-labels-clause-fault c = λ mesh.
    passed_on c.from_residual.result c.in_err-labels.field-0.0
    (IsFault (shown_of c.args.scan.now) c.args.settings mesh (claim_of c.args.cert.now)) c.from_residual.ensures.1
    (c.in_err-labels.ensures.fault mesh)

pub facets_by_number-requires : goal.facets_by_number-requires
facets_by_number-requires c =
    can_be_cut _ _ _ _ _
    (labels_over (shown_of c.args.scan.now) c.args.settings c.args.tetra (claim_of c.args.cert.now) c.in_ok-labels.labels _
    c.requires.counts.cells c.in_ok-labels.ensures.best c.as_slice.ensures)

pub returns-clause-surface : goal.returns-clause-surface
returns-clause-surface c =
    let scan = shown_of c.args.scan.now in
    let best = c.in_ok-labels.ensures.best in
    let labels =
    labels_over scan c.args.settings c.args.tetra (claim_of c.args.cert.now) c.in_ok-labels.labels _ c.requires.counts.cells best
    c.as_slice.ensures in
    record {
      complex = best.complex;
      complex_is = best.complex_is;
      counts = c.requires.stated;
      best = best.best;
      cost_is = best.cost_is;
      surface_is =
          mesh_is c.in_ok-facets_by_number.field-0 c.args.tetra.points (corners ++ points_of scan) _ c.requires.store.points
          (c.in_ok-facets_by_number.ensures.points (scene_of_scan scan c.args.settings) best.complex _ labels)
          (c.in_ok-facets_by_number.ensures.faces (scene_of_scan scan c.args.settings) best.complex _ labels);
    }
