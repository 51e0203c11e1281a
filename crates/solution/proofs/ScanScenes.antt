-- What holds of the points and the sights of a scan: the points are distinct data points, and each sight is of one of them,
-- from a scanner that is there.
use Rattle.std.proofs.Common.{ℕ, ◌≡◌, ◌<◌, arith, sym, subst, length, get_or, All}
use Rattle.std.proofs.lemmas.List.{get_or-map}
use Rattle.geo_sign.specs.Point.{IsWithin, origin}
use Rattle.geo_sign.specs.declared.point.TheConstants.{DATA_LIMIT}
use Rattle.geo_sign.proofs.Corners.{apart}
use Rattle.merge.proofs.Distinct.{distinct, keep}
use Rattle.scan_rows.specs.Shown.{Shown, IsShown}
use Rattle.visibility.specs.SceneViews.{IsSightOf}
use Rattle.solution.specs.Scans.{points_of, sight_of, sights_of}
use Rattle.solution.proofs.SightLists.{no_sight, seen_at, index_below, sight_count}

-- ---- points
pub points_within : (scan : Shown) → IsShown scan → All (IsWithin DATA_LIMIT) (points_of scan)
points_within scan is = keep (IsWithin DATA_LIMIT) scan.points is.points

pub points_apart : (scan : Shown) (j k : ℕ) → j < length (points_of scan) → k < length (points_of scan)
    → get_or (points_of scan) j origin ≡ get_or (points_of scan) k origin → j ≡ k
points_apart scan = apart (points_of scan) (distinct scan.points)

-- ---- sights

pub sights_are : (scan : Shown) → IsShown scan → All (IsSightOf (points_of scan) scan.scanners) (sights_of scan)
sights_are scan is i d l =
    let m : i < length scan.seen = omega (arith, l, sight_count scan) in
    let seen = seen_at scan is i m in
    subst (IsSightOf (points_of scan) scan.scanners) (sym (get_or-map (sight_of scan) scan.seen i no_sight d m))
    (record {
      data_vertex = omega arith;
      vertex = omega (arith, index_below scan (get_or scan.seen i no_sight).row seen.row);
      scanner = seen.scanner;
    })
