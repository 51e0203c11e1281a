-- The sides of linked Delaunay cells, each with its facet from the least number on. No facet stands twice, so a side has one
-- facet and a facet one side. The neighbor across a side has the facet turned; and who has it turned is the neighbor, since a
-- facet with a cell behind it is on no wall, so there is a neighbor, and it is the only one with the turned facet.
-- Stands on: CellRows, and the laws of cells and links.
use Rattle.std.proofs.Common.{ℕ, ◌<◌, ◌≡◌, refl, ap, ◌∙◌, ⊎_elim, true, Option, Some, None, List, arith}
use Rattle.geo_sign.specs.Tetrahedron.{Tetrahedron, tetrahedron, vertex_of, DirectedFacet, facet, facet_of, turned, IsRotated}
use Rattle.geo_sign.specs.Vertices.{Vertices, IsWall}
use Rattle.geo_sign.specs.Cells.{IsCell}
use Rattle.visibility.specs.Complexes.{has_facet}
use Rattle.cell_laws.specs.CellLaws.{HasOneAcross}
use Rattle.cell_laws.specs.Links.{IsBackAt}
use Rattle.cell_laws.specs.LinkLaws.{AreAllCells}
use Rattle.cell_laws.specs.Lists.{IsIn}
use Rattle.cell_laws.proofs.Laws.{across_law}
use Rattle.geo_sign.specs.RowLaws.{IsFirstLeast, IsPositive}
use Rattle.geo_sign.proofs.Rewritings.{same_cell}
use Rattle.geo_sign.proofs.Rotations.{rotated_after, rotated_back, both_turned}
use Rattle.cell_laws.proofs.LinkedCells.{facet_of_same, facet_same, from_facet}
use Rattle.cell_laws.proofs.OneFacet.{one_side}
use Rattle.cell_net.specs.CellRows.{least_first, risen, row_from}
use Rattle.cell_net.proofs.CellRows.{IsSideOf, least_rotated, least_of, turned_least, row_side_is, side_least}

-- the facets of two sides from the least number on: equal where rotated, and turned where turned
least_same : (f g : DirectedFacet) → least_first f ≡ least_first g → IsRotated f g
least_same f g e = grind (arith, rotated_after, least_rotated, rotated_back)

least_turned : (f g : DirectedFacet) → IsFirstLeast (least_first f) → IsRotated (turned f) g
    → least_first g ≡ turned (least_first f)
least_turned f g l r =
    least_of g (turned (least_first f))
    (rotated_after g (turned f) (turned (least_first f)) (rotated_back (turned f) g r)
    (both_turned f (least_first f) (least_rotated f)))
    (turned_least (least_first f) l)

turned_from : (f g : DirectedFacet) → least_first g ≡ turned (least_first f) → IsRotated (turned f) g
turned_from f g e = grind (arith, rotated_after, both_turned, least_rotated, rotated_back)

module _ (v : Vertices) (live : List ℕ) (cell : ℕ → Tetrahedron) (next : ℕ → ℕ → Option ℕ)
    (cells : AreAllCells v live cell next) where
  abbrev pub side_facet : ℕ → ℕ → DirectedFacet
  side_facet x k = least_first (facet_of (cell x) k)

  positive : (x : ℕ) → IsIn live x → IsPositive v (cell x)
  positive x i = (cells.cells x i).positive

  pub least : (x k : ℕ) → IsIn live x → IsFirstLeast (side_facet x k)
  least x k i = side_least v (cell x) k (positive x i)

  -- a side has one facet, and a facet one side
  pub one_cell : (x y j k : ℕ) → IsIn live x → IsIn live y → j < 4 → k < 4 → side_facet x j ≡ side_facet y k → x ≡ y
  one_cell x y j k hx hy hj hk e =
      cells.linked.apart x y j k hx hy hj hk (least_same (facet_of (cell x) j) (facet_of (cell y) k) e)

  pub one_side_of : (x j k : ℕ) → IsIn live x → j < 4 → k < 4 → side_facet x j ≡ side_facet x k → j ≡ k
  one_side_of x j k h hj hk e = grind (arith, one_side, positive, least_same)

  -- the neighbor has the facet turned
  pub across_has : (x k y : ℕ) → IsIn live x → k < 4 → next x k ≡ Some y → IsIn live y × IsSideOf (cell y)
      (turned (side_facet x k))
  across_has x k y hx hk e =
      let b : IsBackAt live cell (facet_of (cell x) k) y = cells.linked.back x k y hx hk e in
      (b.listed, (b.side, b.in_range, least_turned (facet_of (cell x) k) (facet_of (cell y) b.side) (least x k hx) b.turned))

  -- and who has it is the neighbor
  pub has_across : (x k y m : ℕ) → IsIn live x → IsIn live y → k < 4 → m < 4 → side_facet y m ≡ turned (side_facet x k)
      → next x k ≡ Some y
  has_across x k y m hx hy hk hm e = by (next x k) refl
    where
      f : DirectedFacet
      f = facet_of (cell x) k

      turns : IsRotated (turned f) (facet_of (cell y) m)
      turns = turned_from f (facet_of (cell y) m) e

      behind : IsCell v f.a f.c f.b (vertex_of (cell y) m)
      behind =
          same_cell v (cell y) (tetrahedron f.a f.c f.b (vertex_of (cell y) m))
          (facet_of_same (cell y) (tetrahedron f.a f.c f.b (vertex_of (cell y) m))
          (m, hm, rotated_back (turned f) (facet_of (cell y) m) turns, refl))
          (cells.cells y hy)

      own : IsCell v f.a f.b f.c (vertex_of (cell x) k)
      own = same_cell v (cell x) (from_facet (cell x) k) (facet_same (cell x) k) (cells.cells x hx)

      no_wall : IsWall v f → ⊥
      no_wall w =
          ⊎_elim
          (λ (p : IsWall v (facet f.a f.b f.c) × ((n : ℕ) → ¬ IsCell v f.a f.c f.b n)). p.1 (vertex_of (cell y) m) behind)
          (λ (p : (¬ IsWall v (facet f.a f.b f.c)) × HasOneAcross v f.a f.b f.c). p.0 w)
          (across_law v cells.boxed f.a f.b f.c (vertex_of (cell x) k) own)

      by : (o : Option ℕ) → next x k ≡ o → next x k ≡ Some y
      by None o = absurd (no_wall (cells.linked.walls x k hx hk o))
      by (Some z) o =
          let b : IsBackAt live cell f z = cells.linked.back x k z hx hk o in
          let same : z ≡ y =
          cells.linked.apart z y b.side m b.listed hy b.in_range hm
          (rotated_after (facet_of (cell z) b.side) (turned f) (facet_of (cell y) m)
          (rotated_back (turned f) (facet_of (cell z) b.side) b.turned) turns) in
          o ∙ ap Some same

  pub has_is : (x : ℕ) (f : DirectedFacet) → IsIn live x → has_facet v (row_from (risen (cell x))) f ≡ true
      → IsSideOf (cell x) f
  has_is x f h e = row_side_is v (cell x) f (positive x h) e
