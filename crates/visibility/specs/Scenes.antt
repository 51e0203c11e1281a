-- What a scan shows.
--
--   Scene, scene_of      what a scan shows: vertices, scanners, visibility weight, area weight, and sights, each as
--                        often as it was seen and with its weight
--   scanner_point s k    the displaced place of scanner k
use Rattle.std.specs.Prelude.{ℕ, List, slice_index_or}
use Rattle.geo_sign.specs.Point.{Point, origin}
use Rattle.geo_sign.specs.Rational.{RationalPoint, displaced}
use Rattle.geo_sign.specs.Vertices.{Vertices, boxed_vertices}
use Rattle.flow_net.specs.declared.votes.Settings.{Settings}
use Rattle.flow_net.specs.declared.votes.Sight.{Sight}

-- The input of the method: vertices, scanner positions in the order of their numbers, lines of sight as often as they
-- were seen, and the two weights.
pub record Scene : Type 0 where
  pub vertices : Vertices
  pub scanners : List Point
  pub sights : List Sight
  pub settings : Settings

-- The scene whose vertices are the box's corners and the given points.
abbrev pub scene_of : List Point → List Point → List Sight → Settings → Scene
scene_of points scanners sights settings =
    record {
      vertices = boxed_vertices points;
      scanners = scanners;
      sights = sights;
      settings = settings;
    }

-- The perturbed position of scanner k.
abbrev pub scanner_point : List Point → ℕ → RationalPoint
scanner_point scanners k = displaced (slice_index_or scanners k origin)
