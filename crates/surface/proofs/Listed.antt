-- The cells of a scene by the numbers that they have in a store. Each row of the list is that of one live cell, so numbers in the
-- order of the rows, however these stand, are those of all live cells, each once. The label of a row is the flag at its index, and so is
-- that of the cell's number. No cell inside has a corner where no fixed cell is inside.
use Rattle.std.proofs.Common.{ℕ, ◌<◌, ◌≡◌, refl, sym, ap, subst, ◌∙◌, arith, Bool, true, false, List, [], Option, length}
use Rattle.std.proofs.Common.{get_or, Contains}
use Rattle.std.specs.List.Sorted.{IsPermutation}
use Rattle.std.proofs.lemmas.Bool.{or_parts}
use Rattle.std.proofs.lemmas.List.{get_or_default}
use Rattle.std.proofs.lemmas.List.Sorted.{Contains-permutation}
use Rattle.flow_net.specs.Nets.{flag_at}
use Rattle.geo_sign.specs.Tetrahedron.{Tetrahedron}
use Rattle.geo_sign.specs.RowLaws.{IsPositive, IsRowOf}
use Rattle.geo_sign.proofs.RowLaws.{one_row, cells_are_rows}
use Rattle.cell_laws.proofs.RisingRows.{row_law}
use Rattle.visibility.specs.Scenes.{Scene}
use Rattle.visibility.specs.Complexes.{Complex}
use Rattle.visibility.specs.Votes.{has_corner, has_scanner, is_fixed, IsComplexOf}
use Rattle.visibility.specs.Cuts.{IsAdmissible}
use Rattle.visibility.specs.Laws.{test_of}
use Rattle.visibility.proofs.Indices.{once_rising, once_permuted, row_index_at}
use Rattle.tetra_store.specs.declared.link.Cell.{Cell}
use Rattle.tetra_store.specs.Links.{links_of, IsLive}
use Rattle.tetra_store.specs.Stored.{live_of}
use Rattle.cell_net.specs.ByNumber.{SaysOfCells}
use Rattle.cell_net.specs.Counts.{AreCellsOf, AreIdsOf, row_of}
use Rattle.cell_net.proofs.CellCounts.{cell_count_law}
use Rattle.cell_net.proofs.CellRows.{risen_row}
use Rattle.cell_net.proofs.Stored.{listed, live}
use Rattle.surface.specs.Labelled.{NoneHasCorner}

module _ (s : Scene) (slots : List (Option Cell)) (cells : AreCellsOf s slots) (complex : Complex)
    (all : IsComplexOf s complex) where
  abbrev cell : ℕ → Tetrahedron
  cell = (links_of slots).at

  pub positive : (x : ℕ) → IsLive (links_of slots) x → IsPositive s.vertices (cell x)
  positive x h = (cells.cells x (listed slots x h)).positive

  is_row : (x : ℕ) → IsLive (links_of slots) x → IsRowOf (cell x) (row_of slots x)
  is_row x h = risen_row s.vertices (cell x) (positive x h)

  -- ---- rows of the list and live cells
  pub row_in : (x : ℕ) → IsLive (links_of slots) x → Contains complex.cells (row_of slots x)
  row_in x h =
      all.cells_are.all (row_of slots x)
      (cells_are_rows.row s.vertices (cell x) (row_of slots x) (cells.cells x (listed slots x h)) (is_row x h))

  pub cell_with : (row : List ℕ) → Contains complex.cells row → (x : ℕ) × IsLive (links_of slots) x × (row_of slots x ≡ row)
  cell_with row c =
      let z = (row_law s.vertices (live_of slots) cell cells.listing).name row (all.cells_are.cells row c) in
      let h = live slots z.0 z.1 in
      (z.0, h, one_row (cell z.0) row (row_of slots z.0) z.2 (is_row z.0 h))

  one_id : (x y : ℕ) → IsLive (links_of slots) x → IsLive (links_of slots) y → row_of slots x ≡ row_of slots y → x ≡ y
  one_id x y hx hy e =
      (row_law s.vertices (live_of slots) cell cells.listing).one (row_of slots x) x y (listed slots x hx) (listed slots y hy)
      (is_row x hx) (subst (IsRowOf (cell y)) (sym e) (is_row y hy))

  -- ---- numbers in the order of rows
  module _ (order : List (List ℕ)) (listing : IsPermutation complex.cells order) (ids : List ℕ)
      (are : AreIdsOf slots order ids) where
    -- the index of a live cell
    pub index_of : (x : ℕ) → IsLive (links_of slots) x
        → (k : ℕ) × (k < length ids) × (k < length order) × (get_or ids k 0 ≡ x) × (get_or order k [] ≡ row_of slots x)
    index_of x h =
        let c = Contains-permutation complex.cells order (row_of slots x) listing (row_in x h) in
        let k : ℕ = c.0 in
        let l : k < length order = c.1 in
        let n = are.count in
        let m : k < length ids = omega (arith, l, n) in
        let at : get_or order k [] ≡ row_of slots x = get_or_default order k [] (row_of slots x) l ∙ c.2 in
        (k, m, l, one_id (get_or ids k 0) x (are.live k m) h (sym (are.row k m) ∙ at), at)

    -- labels of the numbers of the cells, where each is the label at the cell's index, are those of the test of the labels
    pub says_by_number : (labels : List Bool) (inside : ℕ → Bool)
        → ((k : ℕ) → k < length ids → inside (get_or ids k 0) ≡ flag_at labels k)
        → SaysOfCells slots inside (test_of order labels)
    says_by_number labels inside each x h =
        let i = index_of x h in
        let once = once_permuted complex.cells order listing (once_rising complex.cells all.cells_are.rising) in
        ap inside (sym i.3) ∙ each i.0 i.1 ∙ sym (ap (flag_at labels) (row_index_at order i.0 once i.2))
        ∙ ap (test_of order labels) i.4

  -- ---- labels at the numbers of cells
  module _ (inside : ℕ → Bool) (test : List ℕ → Bool) (says : SaysOfCells slots inside test)
      (none : IsAdmissible s complex test) where
    pub free : (x : ℕ) → IsLive (links_of slots) x → inside x ≡ true
        → is_fixed s.vertices s.scanners (row_of slots x) ≡ false
    free x l h = by (is_fixed s.vertices s.scanners (row_of slots x)) refl
      where
        by : (b : Bool) → is_fixed s.vertices s.scanners (row_of slots x) ≡ b
            → is_fixed s.vertices s.scanners (row_of slots x) ≡ false
        by b e = grind (arith, row_in)

    pub none_has_corner : NoneHasCorner slots inside
    none_has_corner x l h =
        (or_parts (has_corner (cell x)) (has_scanner s.vertices s.scanners (cell x))
        (sym (cell_count_law s slots cells x l).fixed ∙ free x l h)).0
