-- Two listings of one scene judge labels and flows alike: they have the same cells and facets, a sum does not depend on the
-- order, and the two cells of a facet are the same.
use Rattle.std.proofs.Common.{ℕ, ◌≡◌, refl, ap, sym, subst, ◌∙◌, List, Contains, arith}
use Rattle.std.specs.List.Sorted.{IsPermutation}
use Rattle.std.proofs.lemmas.List.Sorted.{IsPermutation-sym, IsPermutation-trans, Contains-permutation, sum_by-IsPermutation}
use Rattle.flow_net.proofs.Correspondences.{AreAlike, agree_as_networks}
use Rattle.geo_sign.specs.Tetrahedron.{DirectedFacet, facet_at, turned}
use Rattle.geo_sign.specs.Vertices.{Vertices}
use Rattle.visibility.specs.Scenes.{Scene}
use Rattle.visibility.specs.Complexes.{Complex, HasFacet, has_facet, cell_index, cell_of}
use Rattle.visibility.specs.Votes.{IsComplexOf}
use Rattle.visibility.specs.Cuts.{network_over}
use Rattle.visibility.specs.Listings.{IsListingOf, AgreeInAnyOrder}
use Rattle.visibility.specs.ListingLaws.{ListingsAgree}
use Rattle.visibility.proofs.Indices.{first_within, index_has}
use Rattle.visibility.proofs.Listings.{rising_listing, facet_back, has_capacity}
use Rattle.visibility.proofs.Members.{same_sum}
use Rattle.visibility.proofs.Ordered.{one_complex}

-- the first cell that has a facet is one of the list
cell_there : (v : Vertices) (cells : List (List ℕ)) (f : DirectedFacet) → HasFacet v cells f
    → Contains cells (cell_of v cells f)
cell_there v cells f h = index_has cells (cell_index v cells f) (first_within (λ row. has_facet v row f) cells h)

alike : (s : Scene) (c d : Complex) → IsListingOf s c → IsListingOf s d → AreAlike (network_over s c) (network_over s d)
alike s c d h k =
    let same : h.complex ≡ k.complex = one_complex s h.complex k.complex h.complex_is k.complex_is in
    let cells : IsPermutation c.cells d.cells =
    IsPermutation-trans c.cells h.complex.cells d.cells (IsPermutation-sym h.complex.cells c.cells h.cells_are)
    (subst (λ (x : Complex). IsPermutation x.cells d.cells) (sym same) k.cells_are) in
    let facets : IsPermutation c.facets d.facets =
    IsPermutation-trans c.facets h.complex.facets d.facets (IsPermutation-sym h.complex.facets c.facets h.facets_are)
    (subst (λ (x : Complex). IsPermutation x.facets d.facets) (sym same) k.facets_are) in
    let cell_is : (f : DirectedFacet) → HasFacet s.vertices h.complex.cells f
    → cell_of s.vertices c.cells f ≡ cell_of s.vertices d.cells f =
    λ f i. h.same_cell f i ∙ ap (λ (x : Complex). cell_of s.vertices x.cells f) same
    ∙ sym (k.same_cell f (subst (λ (x : Complex). HasFacet s.vertices x.cells f) same i)) in
    record {
      nodes = λ row. (
        Contains-permutation c.cells d.cells row cells,
        Contains-permutation d.cells c.cells row (IsPermutation-sym c.cells d.cells cells),
      );
      arcs = λ f. (
        Contains-permutation c.facets d.facets f facets,
        Contains-permutation d.facets c.facets f (IsPermutation-sym c.facets d.facets facets),
      );
      node_sums = λ f g e. same_sum f g c.cells e ∙ sym (sum_by-IsPermutation g c.cells d.cells cells);
      arc_sums = λ f g e. same_sum f g c.facets e ∙ sym (sum_by-IsPermutation g c.facets d.facets facets);
      from_there = λ f i. cell_there s.vertices c.cells (facet_at f) (has_capacity s c h f i).own;
      to_there = λ f i. cell_there s.vertices c.cells (turned (facet_at f)) (has_capacity s c h f i).across;
      from_is = λ f i. cell_is (facet_at f) (h.complex_is.facets_are.only f (facet_back s c h f i)).own;
      to_is = λ f i. cell_is (turned (facet_at f)) (h.complex_is.facets_are.only f (facet_back s c h f i)).across;
      same_is = λ row other. refl;
      capacity_is = λ f i. refl;
      fixed_is = λ row i. refl;
      sink_is = λ row i. refl;
    }

pub listings_agree : ListingsAgree
listings_agree s c d h k = agree_as_networks (network_over s c) (network_over s d) (alike s c d h k)

-- a listing and its rising lists
pub with_rising : (s : Scene) (listing : Complex) → (h : IsListingOf s listing) → AgreeInAnyOrder s listing h.complex
with_rising s listing h = listings_agree s listing h.complex h (rising_listing s h.complex h.complex_is)

-- the network over a scene's cells and facets stands for itself
pub by_itself : (s : Scene) (complex : Complex) → IsComplexOf s complex
    → AreAlike (network_over s complex) (network_over s complex)
by_itself s complex is = alike s complex complex (rising_listing s complex is) (rising_listing s complex is)
