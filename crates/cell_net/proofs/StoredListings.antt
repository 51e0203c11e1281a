-- The rows and the sides of a store's cells are a listing of the scene's cells and facets, in whatever order they stand: sorted they
-- are the rising lists, and each facet's own cell is the same in both.
--
-- Stands on: Nodes.
use Rattle.std.proofs.Common.{ℕ, ◌≡◌, sym, subst, ◌∙◌, Bool, Option, List, map}
use Rattle.std.specs.List.Sorted.{IsPermutation, IsNonDecreasingBy}
use Rattle.std.proofs.lemmas.List.Sorted.{IsPermutation-map, IsPermutation-sym, IsPermutation-trans}
use Rattle.geo_sign.specs.Tetrahedron.{DirectedFacet}
use Rattle.visibility.specs.Scenes.{Scene}
use Rattle.visibility.specs.Complexes.{Complex, cell_of}
use Rattle.visibility.specs.Votes.{IsComplexOf}
use Rattle.visibility.specs.Listings.{IsListingOf}
use Rattle.tetra_store.specs.declared.link.Cell.{Cell}
use Rattle.cell_net.specs.declared.rows.Row.{Row}
use Rattle.cell_net.specs.declared.sides.Side.{Side}
use Rattle.cell_net.specs.Counts.{AreCountsOf}
use Rattle.cell_net.specs.Gathered.{key_of_row, key_of_side, all_rows, all_open}
use Rattle.cell_net.specs.Parts.{cell_of_row, facet_of_side}
use Rattle.cell_net.proofs.Nodes as made
use Rattle.cell_net.proofs.Sorting.{sorted_of}

-- the rows and the sides of a store's cells, in whatever order
pub record AreListed (slots : List (Option Cell)) (fixed : List Bool) (rows : List Row) (sides : List Side) : Type 0 where
  pub moved : IsPermutation (all_rows slots) rows
  pub moved_sides : IsPermutation (all_open fixed slots) sides

module _ (s : Scene) (slots : List (Option Cell)) (crossed behind : List ℕ) (fixed : List Bool) (rows : List Row)
    (sides : List Side) (asked : AreCountsOf s slots crossed behind fixed) (lists : AreListed slots fixed rows sides) where
  abbrev pub complex : Complex
  complex = record { cells = map cell_of_row rows; facets = map facet_of_side sides }

  -- sorted, they are the rising lists
  pub complex_is : IsNonDecreasingBy key_of_row rows → IsNonDecreasingBy key_of_side sides → IsComplexOf s complex
  complex_is sorted sorted_sides =
      made.complex_is s slots fixed asked.cells asked.few rows lists.moved asked.flags sides lists.moved_sides sorted
      sorted_sides

  pub listing_is : IsListingOf s complex
  listing_is =
      let r = sorted_of key_of_row rows in
      let x = sorted_of key_of_side sides in
      let moved : IsPermutation (all_rows slots) r.0 = IsPermutation-trans (all_rows slots) rows r.0 lists.moved r.1.moved in
      let moved_sides : IsPermutation (all_open fixed slots) x.0 =
      IsPermutation-trans (all_open fixed slots) sides x.0 lists.moved_sides x.1.moved in
      record {
        complex = record { cells = map cell_of_row r.0; facets = map facet_of_side x.0 };
        complex_is =
            made.complex_is s slots fixed asked.cells asked.few r.0 moved asked.flags x.0 moved_sides r.1.sorted x.1.sorted;
        cells_are = IsPermutation-map cell_of_row r.0 rows (IsPermutation-sym rows r.0 r.1.moved);
        facets_are = IsPermutation-map facet_of_side x.0 sides (IsPermutation-sym sides x.0 x.1.moved);
        same_cell = λ f h.
            let o = made.owner s slots fixed asked.cells asked.few r.0 moved f h in
            let k = o.2 in
            subst
            (λ (g : DirectedFacet). cell_of s.vertices (map cell_of_row rows) g ≡ cell_of s.vertices (map cell_of_row r.0) g)
            k.2
            (made.cell_is s slots fixed asked.cells asked.few rows lists.moved o.0 k.0 o.1 k.1
            ∙ sym (made.cell_is s slots fixed asked.cells asked.few r.0 moved o.0 k.0 o.1 k.1));
      }
