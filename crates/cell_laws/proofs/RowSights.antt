-- Of the rows of the list of all cells exactly one is the cell of a scanner, and for each data point exactly one is towards the
-- scanner and one behind the sight. Some cell has the place in question, its row has it too, and two rows that pass the
-- test are one cell.
-- Stands on: RisingRows (rows stand for cells), SomeCell (a place lies in a cell), SightLaws and Sums.
use Rattle.std.proofs.Common.{ℕ, ◌+◌, ◌≡◌, refl, ap, ◌∙◌, Bool, true, cond, List, [], ◌∷◌, count_by}
use Rattle.std.proofs.lemmas.List.Sums.{sum_by-cons}
use Rattle.geo_sign.specs.Cells.{IsCellList, written}
use Rattle.geo_sign.specs.Boxes.{IsBoxed}
use Rattle.geo_sign.specs.NearPlaces.{towards_place, behind_place}
use Rattle.geo_sign.specs.Places.{IsInBox, IsLyingIn}
use Rattle.geo_sign.specs.Rational.{RationalPoint, displaced}
use Rattle.geo_sign.specs.Sights.{is_cell_of, is_towards, is_behind}
use Rattle.geo_sign.specs.Tetrahedron.{Tetrahedron}
use Rattle.geo_sign.specs.Vertices.{Vertices}
use Rattle.geo_sign.specs.Writings.{IsRewritten}
use Rattle.cell_laws.specs.Lists.{IsListing}
use Rattle.cell_laws.specs.RowLaws.{RowSightLaw}
use Rattle.cell_laws.specs.WalkLaws.{HasScannerCell, HasSightCells}
use Rattle.geo_sign.proofs.Rewritings.{IsCellOf, rewritten_back, same_lying}
use Rattle.cell_laws.proofs.RisingRows.{list_law, rising_pairs}
use Rattle.cell_laws.proofs.Scanners.{near_law}
use Rattle.cell_laws.proofs.SightLaws.{scanner_law, vertex_sight_law}
use Rattle.cell_laws.proofs.SomeCell.{place_law}
use Rattle.cell_laws.proofs.Sums.{once_pairs, only_one, total, pick}

counted : {X : Type 0} (test : X → Bool) (xs : List X) → count_by test xs ≡ total (λ x. pick 1 (test x)) xs
counted test [] = refl
counted test (x ∷ xs) = sum_by-cons (λ y. cond (test y) 1 0) x xs ∙ ap (λ n. cond (test x) 1 0 + n) (counted test xs)

-- one row passes a test that the row of any cell with a place passes, and no two rows pass
one_passes :
    (v : Vertices) → IsBoxed v → (rows : List (List ℕ)) → IsCellList v rows → (test : Tetrahedron → Bool) (q : RationalPoint) →
    IsInBox q →
    ((t : Tetrahedron) → IsCellOf v t → IsLyingIn v t q → test t ≡ true) →
    ((t r : Tetrahedron) → IsCellOf v t → IsCellOf v r → test t ≡ true → test r ≡ true → IsRewritten t r) →
    count_by (λ row. test (written v row)) rows ≡ 1
one_passes v b rows h test q inside passes one =
    let z = place_law v b q inside in
    let w = list.full.all z.0.a z.0.b z.0.c z.0.d z.1 in
    let has : test (written v w.0) ≡ true =
    passes (written v w.0) (list.full.cells w.0 w.1)
    (same_lying v q z.0 (written v w.0) (rewritten_back (written v w.0) z.0 w.2) z.2) in
    counted (λ x. test (written v x)) rows
    ∙ only_one (λ x. 1) (λ x. test (written v x)) rows w.0 (once_pairs rows (rising_pairs rows h.rising)) w.1 has
    (λ x i t. list.once x w.0 i w.1 (one (written v x) (written v w.0) (list.full.cells x i) (list.full.cells w.0 w.1) t has))
  where
    list : IsListing v rows (written v)
    list = list_law v rows h

pub row_sight_law : RowSightLaw
row_sight_law v b rows h s k =
    record {
      scanner =
          (let x : HasScannerCell v s = scanner_law v b s k in
          one_passes v b rows h (is_cell_of v (displaced s)) (displaced s) (near_law s s k k).scanner_in_box x.lies x.one);
      towards = λ p has a.
          (let x : HasSightCells v p s = vertex_sight_law v b p has s k in
          one_passes v b rows h (is_towards v p (displaced s)) (towards_place (v.at p) s)
          (near_law (v.at p) s (b.data_at p a has.0) k).towards_in_box x.towards x.one_towards);
      behind = λ p has a.
          (let x : HasSightCells v p s = vertex_sight_law v b p has s k in
          one_passes v b rows h (is_behind v p (displaced s)) (behind_place (v.at p) s)
          (near_law (v.at p) s (b.data_at p a has.0) k).behind_in_box x.behind x.one_behind);
    }
