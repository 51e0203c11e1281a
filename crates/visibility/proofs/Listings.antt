-- Lists of cells and facets in any order.
--
-- A listing is the rising lists in another order, so it has the same members, each once. The two cells of a facet that has a
-- capacity are the same ones, so such a facet has a capacity over both.
use Rattle.std.proofs.Common.{ℕ, List, Contains, arith}
use Rattle.std.proofs.lemmas.List.Sorted.{IsPermutation-refl, IsPermutation-sym, Contains-permutation}
use Rattle.geo_sign.specs.Cells.{IsRisingCell}
use Rattle.geo_sign.specs.Tetrahedron.{DirectedFacet, facet_at, turned}
use Rattle.visibility.specs.Scenes.{Scene}
use Rattle.visibility.specs.Complexes.{Complex, HasFacet}
use Rattle.visibility.specs.Votes.{HasCapacity, IsComplexOf}
use Rattle.visibility.specs.Listings.{AreOnce, IsListingOf}
use Rattle.visibility.specs.ListingLaws.{EachOnce}
use Rattle.visibility.proofs.Indices.{once_rising, once_permuted}

-- ---- the rising lists are a listing
pub rising_listing : (s : Scene) (complex : Complex) → IsComplexOf s complex → IsListingOf s complex
rising_listing s complex o = grind (arith, IsPermutation-refl)

-- ---- each once, and nothing else
module _ (s : Scene) (listing : Complex) (h : IsListingOf s listing) where
  pub cells_once : AreOnce listing.cells
  cells_once =
      once_permuted h.complex.cells listing.cells h.cells_are (once_rising h.complex.cells h.complex_is.cells_are.rising)

  pub facets_once : AreOnce listing.facets
  facets_once =
      once_permuted h.complex.facets listing.facets h.facets_are (once_rising h.complex.facets h.complex_is.facets_are.rising)

  pub cell_back : (row : List ℕ) → Contains listing.cells row → Contains h.complex.cells row
  cell_back row i =
      Contains-permutation listing.cells h.complex.cells row (IsPermutation-sym h.complex.cells listing.cells h.cells_are) i

  pub facet_back : (f : List ℕ) → Contains listing.facets f → Contains h.complex.facets f
  facet_back f i =
      Contains-permutation listing.facets h.complex.facets f (IsPermutation-sym h.complex.facets listing.facets h.facets_are) i

  pub rising_cell : (row : List ℕ) → Contains listing.cells row → IsRisingCell s.vertices row
  rising_cell row i = h.complex_is.cells_are.cells row (cell_back row i)

  has_to : (f : DirectedFacet) → HasFacet s.vertices h.complex.cells f → HasFacet s.vertices listing.cells f
  has_to f i = grind (arith, Contains-permutation h.complex.cells listing.cells i.1 h.cells_are (i.0, i.2, i.3))

  has_back : (f : DirectedFacet) → HasFacet s.vertices listing.cells f → HasFacet s.vertices h.complex.cells f
  has_back f i = let c = cell_back i.1 (i.0, i.2, i.3) in (c.0, i.1, c.1, c.2, i.4)

  pub has_capacity : (f : List ℕ) → Contains listing.facets f → HasCapacity s listing.cells f
  has_capacity f i =
      let k : HasCapacity s h.complex.cells f = h.complex_is.facets_are.only f (facet_back f i) in
      let across = has_to (turned (facet_at f)) k.across in
      grind (arith, has_to (facet_at f) k.own, h.same_cell (turned (facet_at f)) k.across)

  pub facet_listed : (f : List ℕ) → HasCapacity s listing.cells f → Contains listing.facets f
  facet_listed f k =
      let own = has_back (facet_at f) k.own in let across = has_back (turned (facet_at f)) k.across in
      let c : HasCapacity s h.complex.cells f = grind (arith, h.same_cell (turned (facet_at f)) across) in
      Contains-permutation h.complex.facets listing.facets f h.facets_are (h.complex_is.facets_are.all f c)

  pub each_once : EachOnce s listing
  each_once =
      record {
        cells_once = cells_once;
        cells =
            λ row. (
              rising_cell row,
              λ k. Contains-permutation h.complex.cells listing.cells row h.cells_are (h.complex_is.cells_are.all row k),
            );
        facets_once = facets_once;
        facets = λ f. (has_capacity f, facet_listed f);
      }
