-- The least cost of a scan is below 2^47. The distinct points are data points, so the corners and they are vertices of the box;
-- each sight goes from a scanner within the limit to one of them, and of the list of all cells exactly one is behind it.
use Rattle.std.proofs.Common.{ℕ, ◌+◌, ◌<◌, ◌≡◌, refl, sym, subst, ◌∙◌, arith, List, length, get_or, count_by}
use Rattle.std.proofs.lemmas.List.{get_or-map}
use Rattle.cell_laws.proofs.RowSights.{row_sight_law}
use Rattle.cell_laws.proofs.Stored.{all_law}
use Rattle.flow_net.specs.declared.votes.Sight.{Sight}
use Rattle.geo_sign.specs.Boxes.{IsBoxed}
use Rattle.geo_sign.specs.Cells.{IsCellList, written}
use Rattle.geo_sign.specs.Point.{origin}
use Rattle.geo_sign.specs.Sights.{is_behind}
use Rattle.geo_sign.specs.Vertices.{boxed_vertices}
use Rattle.merge.specs.Merging.{index_among}
use Rattle.merge.proofs.Distinct.{distinct}
use Rattle.scan_rows.specs.Shown.{Shown, IsSeen, IsShown}
use Rattle.scan_rows.specs.declared.scan.Seen.{Seen}
use Rattle.visibility.specs.Laws.{HasOneBehind}
use Rattle.visibility.specs.Scenes.{scanner_point}
use Rattle.visibility.proofs.SightCosts.{least_cost_is_small}
use Rattle.solution.specs.Laws.{LeastCostLaw}
use Rattle.mesh.specs.Meshes.{point_at}
use Rattle.solution.specs.Scans.{points_of, sight_of, scene_of_scan}
use Rattle.solution.proofs.ScanScenes.{points_within}
use Rattle.solution.proofs.SightLists.{no_sight, seen_at, index_below, sight_count, sight_list}

boxed : (scan : Shown) → IsShown scan → IsBoxed (boxed_vertices (points_of scan))
boxed scan is = all_law (points_of scan) (points_within scan is) (distinct scan.points)

-- a sight has one cell behind it
one_behind : (scan : Shown) (cells : List (List ℕ)) → IsShown scan → IsCellList (boxed_vertices (points_of scan)) cells
    → (seen : Seen) → IsSeen (length scan.points) (length scan.scanners) seen → (sight : Sight) → sight_of scan seen ≡ sight
    → count_by
    (λ row. is_behind (boxed_vertices (points_of scan)) sight.vertex (scanner_point scan.scanners sight.scanner)
    (written (boxed_vertices (points_of scan)) row)) cells ≡ 1
one_behind scan cells is list seen there sight e =
    subst (λ (s : Sight).
    count_by (λ row. is_behind (boxed_vertices (points_of scan)) s.vertex (scanner_point scan.scanners s.scanner)
    (written (boxed_vertices (points_of scan)) row)) cells ≡ 1) e
    ((row_sight_law (boxed_vertices (points_of scan)) (boxed scan is) cells list (get_or scan.scanners seen.scanner origin)
    (is.scanners seen.scanner origin there.scanner)).behind
    (8 + index_among (points_of scan) (point_at scan.points seen.row)) (omega (arith, index_below scan seen.row there.row), refl)
    (omega arith))

pub least_cost_law : LeastCostLaw
least_cost_law scan settings complex inside is o h =
    least_cost_is_small (scene_of_scan scan settings) complex inside one (sight_list scan is) h
  where
    one : HasOneBehind (scene_of_scan scan settings) complex.cells
    one sight c =
        let l : c.0 < length scan.seen = (let x = c.1 in omega (arith, x, sight_count scan)) in
        let e : sight_of scan (get_or scan.seen c.0 no_sight) ≡ sight =
        sym (get_or-map (sight_of scan) scan.seen c.0 no_sight sight l) ∙ c.2 in
        let n = one_behind scan complex.cells is o.cells_are (get_or scan.seen c.0 no_sight) (seen_at scan is c.0 l) sight e in
        omega (arith, n)
