-- What a scan shows, as calls take it.
--
--   view_of given                     the scene of the points, scanners, sights and settings that a call is given
--                                     (`Scene` in code)
--   IsSightOf points scanners sight   the sight is of one of the points, from one of the scanners
--   IsSound given                     all given sights are of given points and scanners, with valid weights, and not
--                                     too many; the coordinates of the scanners are within `DATA_LIMIT`
use Rattle.std.specs.Prelude.{◌+◌, ◌<◌, ◌≤◌, List, All, length}
use Rattle.flow_net.specs.declared.votes.Sight.{Sight}
use Rattle.flow_net.specs.Weights.{IsSightList}
use Rattle.geo_sign.specs.Point.{Point, IsWithin}
use Rattle.geo_sign.specs.declared.point.TheConstants.{CORNERS, DATA_LIMIT}
use Rattle.visibility.specs.Scenes as scenes
use Rattle.visibility.specs.Scenes.{scene_of}
use Rattle.visibility.specs.declared.scene.Scene.{Scene}

-- the scene of the points, scanners, sights and settings that are given
abbrev pub view_of : Scene → scenes.Scene
view_of given = scene_of given.points.now given.scanners.now given.sights.now given.settings

-- of a vertex behind the eight corners, from a scanner that is there
pub record IsSightOf (points scanners : List Point) (sight : Sight) : Type 0 where
  pub data_vertex : CORNERS ≤ sight.vertex
  pub vertex : sight.vertex < CORNERS + length points
  pub scanner : sight.scanner < length scanners

-- each sight is one of the points from the scanners; they are not too many, and each is of a weight that it may have
pub record IsSound (given : Scene) : Type 0 where
  pub sights : All (IsSightOf given.points.now given.scanners.now) given.sights.now
  pub few_sights : IsSightList given.sights.now
  pub data_points : All (IsWithin DATA_LIMIT) given.scanners.now
