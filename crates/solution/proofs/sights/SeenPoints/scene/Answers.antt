use Rattle.std.proofs.Common.{◌∙◌}
use Rattle.scan_rows.proofs.ShownLemmas.{scan_is_shown}
use Rattle.scan_rows.specs.Views.{shown_of}
use Rattle.solution.proofs.ScanScenes.{sights_are}
use Rattle.solution.proofs.SightLists.{few_sights}
use Rattle.solution.proofs.sights.SeenPoints.scene.Goals as goal

pub returns-clause-sound : goal.returns-clause-sound
returns-clause-sound c =
    let points = c.deref.ensures.value ∙ c.requires.points in
    let sights = c.deref-3.ensures.value ∙ c.requires.sights in
    record {
      sights =
          rw (points, c.deref-2.ensures.value, sights) (sights_are (shown_of c.args.scan.now) (scan_is_shown c.args.scan.now));
      few_sights = rw sights (few_sights c.args.scan.now);
      data_points = rw c.deref-2.ensures.value c.args.scan.now.scanners_are_data;
    }
