-- The sights of a scan.
use Rattle.std.proofs.Common.{ℕ, ◌≡◌, ◌+◌, ◌<◌, ◌≤◌, ◌++◌, arith, ap, sym, subst, ◌∙◌, List, [], ◌∷◌, length, get_or, map, take}
use Rattle.std.proofs.lemmas.List.{take_more, length-map, get_or-map, map-append}
use Rattle.geo_sign.specs.declared.point.TheConstants.{CORNERS}
use Rattle.flow_net.specs.Weights.{IsWeighed, IsSightList}
use Rattle.flow_net.specs.declared.votes.Settings.{Settings}
use Rattle.geo_sign.specs.Point.{origin}
use Rattle.merge.specs.Merging.{index_among}
use Rattle.merge.proofs.Distinct.{few}
use Rattle.merge.proofs.Indices.{each_stands}
use Rattle.scan_rows.proofs.ShownLemmas.{scan_is_shown}
use Rattle.scan_rows.specs.ScanRows.{point_limit}
use Rattle.scan_rows.specs.Shown.{Shown, IsSeen, IsShown}
use Rattle.scan_rows.specs.Views.{shown_of}
use Rattle.scan_rows.specs.declared.scan.Scan.{Scan}
use Rattle.scan_rows.specs.declared.scan.Seen.{Seen}
use Rattle.mesh.specs.Meshes.{point_at}
use Rattle.solution.specs.Scans.{points_of, sight_of, sights_of, scene_of_scan}

abbrev pub no_sight : Seen
no_sight = record { row = 0; scanner = 0; weight = 0 }

-- ---- indices of points

-- a row's index is that of its point
pub index_below : (scan : Shown) (row : ℕ) → row < length scan.points
    → index_among (points_of scan) (point_at scan.points row) < length (points_of scan)
index_below scan row l = (each_stands scan.points row origin l).0

index_at : (scan : Shown) (of_row : List ℕ) (row : ℕ) → of_row ≡ map (index_among (points_of scan)) scan.points
    → row < length scan.points
    → get_or of_row row 0 ≡ index_among (points_of scan) (point_at scan.points row)
index_at scan of_row row indices l =
    ap (λ (list : List ℕ). get_or list row 0) indices ∙ get_or-map (index_among (points_of scan)) scan.points row origin 0 l

-- there is an index for each row
pub index_count : (scan : Shown) (of_row : List ℕ) → of_row ≡ map (index_among (points_of scan)) scan.points
    → length of_row ≡ length scan.points
index_count scan of_row indices = ap length indices ∙ length-map scan.points (index_among (points_of scan))

-- there are no more points than rows
pub few_points : (scan : Scan) → length (points_of (shown_of scan)) ≤ point_limit
few_points scan = omega (arith, few scan.points.items, scan.points_fit)

pub few_indices : (scan : Scan) (of_row : List ℕ) (row : ℕ)
    → of_row ≡ map (index_among (points_of (shown_of scan))) scan.points.items → row < length scan.points.items
    → get_or of_row row 0 < point_limit
few_indices scan of_row row indices l =
    omega (arith, index_at (shown_of scan) of_row row indices l, index_below (shown_of scan) row l, few_points scan)

-- ---- sights

-- the sight at an index
pub seen_at : (scan : Shown) → IsShown scan → (i : ℕ) → i < length scan.seen
    → IsSeen (length scan.points) (length scan.scanners) (get_or scan.seen i no_sight)
seen_at scan is i l = is.seen i no_sight l

-- a sight more, by a list that has the indices of all rows' points
pub sights_more : (scan : Shown) (of_row : List ℕ) (i weight : ℕ) → of_row ≡ map (index_among (points_of scan)) scan.points
    → i < length scan.seen → (get_or scan.seen i no_sight).row < length scan.points
    → weight ≡ (get_or scan.seen i no_sight).weight
    → map (sight_of scan) (take (i + 1) scan.seen)
    ≡ map (sight_of scan) (take i scan.seen)
    ++ (record {
      vertex = CORNERS + get_or of_row (get_or scan.seen i no_sight).row 0;
      scanner = (get_or scan.seen i no_sight).scanner;
      weight = weight;
    }) ∷ []
sights_more scan of_row i weight indices within row same =
    let seen : Seen = get_or scan.seen i no_sight in
    ap (map (sight_of scan)) (take_more scan.seen i no_sight within)
    ∙ map-append (sight_of scan) (take i scan.seen) (seen ∷ [])
    ∙ ap (λ (n : ℕ). map (sight_of scan) (take i scan.seen)
    ++ (record { vertex = CORNERS + n; scanner = seen.scanner; weight = seen.weight }) ∷ [])
    (sym (index_at scan of_row seen.row indices row))
    ∙ ap (λ (n : ℕ). map (sight_of scan) (take i scan.seen)
    ++ (record { vertex = CORNERS + get_or of_row seen.row 0; scanner = seen.scanner; weight = n }) ∷ []) (sym same)

pub sight_count : (scan : Shown) → length (sights_of scan) ≡ length scan.seen
sight_count scan = length-map scan.seen (sight_of scan)

-- few sights, each of a weight that it may have
pub sight_list : (scan : Shown) → IsShown scan → IsSightList (sights_of scan)
sight_list scan is =
    record {
      few = omega (arith, sight_count scan, is.sight_count);
      weighed = λ k d m.
          let n : k < length scan.seen = omega (arith, m, sight_count scan) in
          let seen = seen_at scan is k n in
          subst IsWeighed (sym (get_or-map (sight_of scan) scan.seen k no_sight d n))
          (record { at_least = seen.least_weight; at_most = seen.most_weight });
    }

pub few_sights : (scan : Scan) → IsSightList (sights_of (shown_of scan))
few_sights scan = sight_list (shown_of scan) (scan_is_shown scan)

-- the corners and the points are the vertices
pub few_vertices : (scan : Scan) (settings : Settings)
    → (scene_of_scan (shown_of scan) settings).vertices.count ≤ CORNERS + point_limit
few_vertices scan settings = omega (arith, few_points scan)
