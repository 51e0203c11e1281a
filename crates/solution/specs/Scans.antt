-- The content of a scan as a scene: its points as vertices, and its sights of these.
--
--   points_of scan               the distinct points of a scan, in the order of their first rows, also those that no
--                                scanner saw
--   sight_of scan seen           a sight as one of a vertex
--   sights_of scan               the sights of a scan, each of its row's point, from its scanner, of its weight
--   scene_of_scan scan settings  the scene of a scan: the box's corners and the distinct points, the scanners, and the
--                                sights. Equal sights occur as often as they were seen
use Rattle.std.specs.Prelude.{◌+◌, List, map}
use Rattle.geo_sign.specs.declared.point.TheConstants.{CORNERS}
use Rattle.flow_net.specs.declared.votes.Settings.{Settings}
use Rattle.flow_net.specs.declared.votes.Sight.{Sight}
use Rattle.geo_sign.specs.Point.{Point}
use Rattle.mesh.specs.Meshes.{point_at}
use Rattle.merge.specs.Merging.{distinct_points, index_among}
use Rattle.scan_rows.specs.Shown.{Shown}
use Rattle.scan_rows.specs.declared.scan.Seen.{Seen}
use Rattle.visibility.specs.Scenes.{Scene, scene_of}

-- The distinct points of a scan, in the order of their first rows, including those that no scanner saw.
abbrev pub points_of : Shown → List Point
points_of scan = distinct_points scan.points

-- The line of sight of an observation: the vertex of its point, its scanner and its weight. The first point is vertex
-- `CORNERS`, after the corners of the box.
abbrev pub sight_of : Shown → Seen → Sight
sight_of scan seen =
    record { vertex = CORNERS + index_among (points_of scan) (point_at scan.points seen.row); scanner = seen.scanner; weight = seen.weight }

-- All lines of sight of a scan, row by row, and within a row in the order of its scanners. Equal ones are kept as often
-- as they occur.
abbrev pub sights_of : Shown → List Sight
sights_of scan = map (sight_of scan) scan.seen

-- The scene of a scan at given weights: the box's corners and the distinct points, the scanners and the lines of sight.
abbrev pub scene_of_scan : Shown → Settings → Scene
scene_of_scan scan settings = scene_of (points_of scan) scan.scanners (sights_of scan) settings
