-- The flags by the numbers of cells are the labels of the minimum cut, which says them of the cells by their vertices.
use Rattle.std.proofs.Common.{arith}
use Rattle.scan_rows.specs.Views.{shown_of}
use Rattle.solution.specs.Scans.{scene_of_scan}
use Rattle.tetra_store.proofs.Observed.{slot_in}
use Rattle.visibility.proofs.ListingAgreements.{with_rising}
use Rattle.visibility.specs.Scenes.{Scene}
use Rattle.cell_net.specs.StoredComplexes.{stored_complex}
use Rattle.solid_query.proofs.solid.solid_of.Goals as goal

pub returns : goal.returns
returns g c =
    let s : Scene = scene_of_scan (shown_of c.args.scan.now) c.args.settings in
    let slots = c.in_ok-tetra.tetra.slots in
    let made = c.in_ok-tetra.ensures in
    let is = c.in_ok-cut.ensures in
    record {
      points = made.store.points;
      delaunay = made.delaunay;
      cells = made.counts.cells;
      complex = is.listing.complex;
      inside = is.inside;
      complex_is = is.listing.complex_is;
      least = ((with_rising s (stored_complex is.fixed slots) is.listing).least_inside is.inside).0 is.least;
      fits = λ id live. (let l = slot_in slots id live in omega (arith, l, is.cells));
      flags_are = is.labels_say;
    }
