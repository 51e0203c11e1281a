-- The rows of cells, each four rising numbers. geo_sign says that a cell has one row, that `written` makes of the row the cell
-- again, and that two cells with one row are one. So names that stand for all cells have one row each, each row of a cell is
-- that of one name, and the rows of the list of all cells stand for all cells.
--
--   row_law              names that stand for all cells, and their rows
--   list_law             the rows of the list of all cells
--   rising_pairs         rising rows are there once
--   listed, is_listed    the two ways to say that something is in a list
--
-- Stands on: the definitions and geo_sign.
use Rattle.std.proofs.Common.{ℕ, zero, suc, ◌<◌, ◌≡◌, ◌≢◌, subst, inl, inr, arith, List, [], ◌∷◌, length, get_or}
use Rattle.std.proofs.Common.{AllPairs, Contains}
use Rattle.geo_sign.specs.Tetrahedron.{Tetrahedron, tetrahedron}
use Rattle.geo_sign.specs.Vertices.{Vertices}
use Rattle.geo_sign.specs.Cells.{IsCellList, IsRisingCell, written}
use Rattle.geo_sign.specs.Rising.{IsBefore}
use Rattle.geo_sign.specs.RowLaws.{IsRowOf}
use Rattle.geo_sign.specs.Writings.{IsRewritten}
use Rattle.cell_laws.specs.Lists.{IsIn}
use Rattle.cell_laws.specs.RowLaws.{ListLaw}
use Rattle.cell_laws.specs.StoredLaws.{RowLaw}
use Rattle.geo_sign.proofs.Rewritings.{IsCellOf, rewritten_back}
use Rattle.geo_sign.proofs.RowLaws.{cells_are_rows, one_row, rows_are_kept, rows_are_written, rows_exist, rows_tell}
use Rattle.geo_sign.proofs.Rising.{not_before_self}

-- ---- names that stand for all cells
pub row_law : RowLaw
row_law v live cell list =
    record {
      row =
          λ x i. (let k = list.full.cells x i in
          let r = rows_exist v (cell x) k.positive in
          (r.0, r.1, cells_are_rows.row v (cell x) r.0 k r.1.is));
      name = λ row h.
          (let w = written v row in
          let x = list.full.all w.a w.b w.c w.d (cells_are_rows.cell v row h) in
          (x.0, x.1, rows_are_kept w (cell x.0) row (rewritten_back (cell x.0) w x.2) (cells_are_rows.back v row h)));
      one =
          λ row x y i j h k. list.once x y i j
          (rows_tell v (cell x) (cell y) row (list.full.cells x i).positive (list.full.cells y j).positive h k);
    }

-- ---- the list of all cells
pub listed : {X : Type 0} (xs : List X) (x : X) → IsIn xs x → Contains xs x
listed [] x h = absurd h
listed (y ∷ ys) x (inl e) = (0, omega arith, e)
listed (y ∷ ys) x (inr h) = let z = listed ys x h in let l = z.1 in (suc z.0, omega (arith, l), z.2)

pub is_listed : {X : Type 0} (xs : List X) (x : X) → Contains xs x → IsIn xs x
is_listed {X} xs x c = at xs c.0 c.1 c.2
  where
    at : (xs : List X) (k : ℕ) → k < length xs → get_or xs k x ≡ x → IsIn xs x
    at [] k h e = absurd (omega (arith, h))
    at (y ∷ ys) zero h e = inl e
    at (y ∷ ys) (suc k) h e = inr (at ys k (omega (arith, h)) e)

-- the row of a cell is in the list
found :
    (v : Vertices) (rows : List (List ℕ)) → IsCellList v rows → (t : Tetrahedron) → IsCellOf v t →
    (row : List ℕ) × IsIn rows row × IsRewritten (written v row) t
found v rows h t k =
    let r = rows_exist v t k.positive in
    let is : IsRowOf t r.0 = r.1.is in (
      r.0,
      is_listed rows r.0 (h.all r.0 (cells_are_rows.row v t r.0 k is)),
      rewritten_back t (written v r.0) (rows_are_written v t r.0 k.positive is),
    )

pub list_law : ListLaw
list_law v rows h =
    record {
      full = record {
        cells = λ row i. cells_are_rows.cell v row (rising row i);
        all = λ a b c d k. found v rows h (tetrahedron a b c d) k;
      };
      once =
          λ row other i j w. one_row (written v other) other row (cells_are_rows.back v other (rising other j))
          (rows_are_kept (written v row) (written v other) row w (cells_are_rows.back v row (rising row i)));
    }
  where
    rising : (row : List ℕ) → IsIn rows row → IsRisingCell v row
    rising row i = h.cells row (listed rows row i)

-- rising rows are there once
pub rising_pairs : (rows : List (List ℕ)) → AllPairs IsBefore rows → AllPairs (λ x y. x ≢ y) rows
rising_pairs rows h i j d l m =
    λ e. not_before_self (get_or rows j d) (subst (λ (x : List ℕ). IsBefore x (get_or rows j d)) e (h i j d l m))
