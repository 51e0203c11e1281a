-- The scene of a sweep. What is counted of cells and sides does not hang on the weights (`counts_to`).
use Rattle.std.proofs.Common.{ℕ, ◌≡◌, ap, sym, ◌∙◌, Bool, List, Option}
use Rattle.flow_net.specs.declared.votes.Settings.{Settings}
use Rattle.flow_net.specs.declared.votes.Sight.{Sight}
use Rattle.geo_sign.specs.Point.{Point}
use Rattle.scan_rows.specs.Shown.{Shown}
use Rattle.solution.specs.Scans.{points_of, scene_of_scan, sights_of}
use Rattle.tetra_store.specs.declared.link.Cell.{Cell}
use Rattle.visibility.specs.Scenes.{scene_of}
use Rattle.visibility.specs.Votes.{crossings, sights_before}
use Rattle.cell_net.specs.Counts.{AreCountsOf}

-- the scene of a scan whose points, scanners and sights these are
pub scene_kept : (scan : Shown) (points scanners : List Point) (sights : List Sight) (settings : Settings)
    → points ≡ points_of scan → scanners ≡ scan.scanners → sights ≡ sights_of scan
    → scene_of_scan scan settings ≡ scene_of points scanners sights settings
scene_kept scan points scanners sights settings a b d =
    ap (λ (list : List Point). scene_of list scan.scanners (sights_of scan) settings) (sym a)
    ∙ ap (λ (list : List Point). scene_of points list (sights_of scan) settings) (sym b)
    ∙ ap (λ (list : List Sight). scene_of points scanners list settings) (sym d)

-- the counts are those at other weights
pub counts_to : (points scanners : List Point) (sights : List Sight) (a b : Settings) (slots : List (Option Cell))
    (crossed behind : List ℕ) (fixed : List Bool) → AreCountsOf (scene_of points scanners sights a) slots crossed behind fixed
    → AreCountsOf (scene_of points scanners sights b) slots crossed behind fixed
unfolding crossings sights_before
counts_to points scanners sights a b slots crossed behind fixed h =
    record {
      cells = h.cells;
      few = h.few;
      few_sights = h.few_sights;
      crossings = record { count = h.crossings.count; at = h.crossings.at };
      before = record { count = h.before.count; at = h.before.at };
      flags = record { count = h.flags.count; at = h.flags.at };
    }
