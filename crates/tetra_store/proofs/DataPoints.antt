-- The points of a store are the corners and then the data points: its first eight points are the corners, one by one (corners_first).
use Rattle.std.proofs.Common.{◌≡◌, ◌≤◌, ◌<◌, ◌-◌, List, [], ◌++◌, length, take, drop, sym, ap, ◌∙◌, subst, arith}
use Rattle.std.proofs.lemmas.List.{ext_get_or, get_or-take, length-drop, length-take-le, take-append-drop, take_all}
use Rattle.geo_sign.specs.declared.point.TheConstants.{CORNERS}
use Rattle.geo_sign.specs.Point.{Point, origin}
use Rattle.geo_sign.specs.Vertices.{corners}
use Rattle.geo_sign.proofs.Corners.{corner_at}
use Rattle.tetra_store.specs.Store.{Store, IsStore, data_points_of}

-- there are eight vertices at least
pub has_corners : (s : Store) → IsStore s → CORNERS ≤ length s.points
has_corners s store = let last = (store.vertices.boxed.corner_in 7 (omega arith)).0 in omega (arith, last)

pub corners_first : (s : Store) → IsStore s → s.points ≡ corners ++ data_points_of s
corners_first s store =
    subst (λ (first : List Point). s.points ≡ first ++ data_points_of s) first_are (sym (take-append-drop CORNERS s.points))
  where
    count : length (take CORNERS s.points) ≡ CORNERS
    count = length-take-le CORNERS s.points (has_corners s store)

    first_are : take CORNERS s.points ≡ corners
    first_are =
        ext_get_or origin (take CORNERS s.points) corners count
        (λ k l.
        let below : k < CORNERS = omega (arith, l, count) in
        get_or-take CORNERS s.points k origin below ∙ store.vertices.boxed.corner_at k below ∙ sym (corner_at [] k below))

-- a list from its ninth element on, as a slice is taken
pub from_eighth : (all points : List Point) → all ≡ points
    → take (length all - CORNERS) (drop CORNERS all) ≡ drop CORNERS points
from_eighth all points e =
    let n = length-drop CORNERS all in
    take_all (length all - CORNERS) (drop CORNERS all) (omega (arith, n)) ∙ ap (λ (list : List Point). drop CORNERS list) e
