-- What labels cut of a store's cells are, where these are all cells of a scene and no fixed cell is inside, the facets of the scene
-- that the labels cut. Both lists rise, so it is enough that they have the same members. A facet of the one has a capacity, since an
-- inside cell is not fixed; and the two cells of a facet of the other are live cells, of which the one is across the side of the
-- other that has the facet.
use Rattle.std.proofs.Common.{ℕ, zero, suc, ◌≡◌, refl, sym, ap, subst, ◌∙◌, inl, arith, Bool, true, false, true≢false}
use Rattle.std.proofs.Common.{not, cond, Option, List, [], ◌∷◌, filter, Contains}
use Rattle.std.proofs.lemmas.Bool.{and_parts, and_from, not-true, not_from_false}
use Rattle.std.proofs.lemmas.List.Elements.{Contains-get_or}
use Rattle.std.proofs.lemmas.List.Kept.{AllPairs-filter}
use Rattle.std.proofs.lemmas.List.Sums.{passes_at_first}
use Rattle.geo_sign.specs.Tetrahedron.{Tetrahedron, DirectedFacet, facet_of, facet_at, numbers_of, turned}
use Rattle.geo_sign.specs.Cells.{written}
use Rattle.geo_sign.specs.Rising.{IsBefore}
use Rattle.geo_sign.specs.Writings.{IsRewritten}
use Rattle.geo_sign.proofs.Among.{found}
use Rattle.geo_sign.proofs.Rising.{rising_law}
use Rattle.geo_sign.proofs.Members.{here, there}
use Rattle.cell_laws.proofs.OneFacet.{facet_law}
use Rattle.cell_laws.proofs.RisingRows.{list_law, is_listed}
use Rattle.visibility.specs.Scenes.{Scene}
use Rattle.visibility.specs.Complexes.{Complex, has_facet, HasFacet, cell_of}
use Rattle.visibility.specs.Votes.{is_fixed, HasCapacity, IsComplexOf}
use Rattle.visibility.specs.Cuts.{is_cut, cut_facets, IsAdmissible}
use Rattle.visibility.proofs.Indices.{first_within}
use Rattle.tetra_store.specs.declared.link.Cell.{Cell}
use Rattle.tetra_store.specs.Links.{links_of}
use Rattle.tetra_store.specs.Stored.{live_of}
use Rattle.cell_net.specs.ByNumber.{SaysOfCells}
use Rattle.cell_net.specs.CellRows.{least_first}
use Rattle.cell_net.specs.Counts.{AreCellsOf, row_of}
use Rattle.cell_net.proofs.CellRows.{IsSideOf, row_has_side}
use Rattle.cell_net.proofs.CellSides.{across_has, has_across, has_is}
use Rattle.cell_net.proofs.Stored.{listed, live}
use Rattle.surface.specs.Labelled.{AreCutFacets, AreLabelsOver, IsCutFacet, NoneHasCorner}
use Rattle.surface.proofs.Listed as rows

-- ---- what a filter keeps
pub filter_in : {X : Type 0} (p : X → Bool) (xs : List X) (x : X) → Contains (filter p xs) x → Contains xs x × (p x ≡ true)
filter_in p [] x h = absurd (omega (arith, h.1))
filter_in {X = X} p (y ∷ xs) x h = grind (arith, here, there, filter_in p xs x)

pub in_filter : {X : Type 0} (p : X → Bool) (xs : List X) (x : X) → Contains xs x → p x ≡ true → Contains (filter p xs) x
in_filter p [] x h t = absurd (omega (arith, h.1))
in_filter {X = X} p (y ∷ xs) x h t = by (p y) refl h (λ c. in_filter p xs x c t)
  where
    by : (b : Bool) → p y ≡ b → Contains (y ∷ xs) x → (Contains xs x → Contains (filter p xs) x)
        → Contains (cond b (y ∷ filter p xs) (filter p xs)) x
    by true e (zero, l, i) r = subst (Contains (y ∷ filter p xs)) i (here y (filter p xs))
    by true e (suc k, l, i) r = there y x (filter p xs) (r (k, omega (arith, l), i))
    by false e (zero, l, i) r = absurd (true≢false (sym t ∙ sym (ap p i) ∙ e))
    by false e (suc k, l, i) r = r (k, omega (arith, l), i)

module _ (s : Scene) (slots : List (Option Cell)) (cells : AreCellsOf s slots) (complex : Complex)
    (all : IsComplexOf s complex) where
  abbrev cell : ℕ → Tetrahedron
  cell = (links_of slots).at

  abbrev next : ℕ → ℕ → Option ℕ
  next = (links_of slots).next

  -- one cell of the list has a facet
  one_cell : (row other : List ℕ) (f : DirectedFacet) → Contains complex.cells row → Contains complex.cells other
      → has_facet s.vertices row f ≡ true → has_facet s.vertices other f ≡ true → row ≡ other
  one_cell row other f c d h k =
      let all_rows = list_law s.vertices complex.cells all.cells_are in
      let t : Tetrahedron = written s.vertices row in
      let q : Tetrahedron = written s.vertices other in
      let i = found t f h in
      let j = found q f k in
      let lr = is_listed complex.cells row c in
      let lo = is_listed complex.cells other d in
      let w : IsRewritten t q =
      (facet_law s.vertices cells.boxed t q (all_rows.full.cells row lr) (all_rows.full.cells other lo)).cell i.0 j.0 i.1 j.1
      (inl (j.2 ∙ sym i.2)) in
      all_rows.once row other lr lo w

  has : (row : List ℕ) (f : DirectedFacet) → Contains complex.cells row → has_facet s.vertices row f ≡ true
      → HasFacet s.vertices complex.cells f
  has row f c h = (c.0, row, c.1, c.2, h)

  -- the first cell that has a facet
  first_in : (f : DirectedFacet) → HasFacet s.vertices complex.cells f
      → Contains complex.cells (cell_of s.vertices complex.cells f)
      × (has_facet s.vertices (cell_of s.vertices complex.cells f) f ≡ true)
  first_in f h = grind (arith, first_within, Contains-get_or, passes_at_first)

  cell_is : (row : List ℕ) (f : DirectedFacet) → Contains complex.cells row → has_facet s.vertices row f ≡ true
      → cell_of s.vertices complex.cells f ≡ row
  cell_is row f c h = let p = first_in f (has row f c h) in one_cell (cell_of s.vertices complex.cells f) row f p.0 c p.1 h

  module _ (inside : ℕ → Bool) (test : List ℕ → Bool) (says : SaysOfCells slots inside test)
      (none : IsAdmissible s complex test) where
    to_cut : (f : List ℕ) → IsCutFacet slots inside f → Contains (cut_facets s.vertices complex test) f
    to_cut f c =
        let x = c.own in
        let y = c.other in
        let b = across_has s.vertices (live_of slots) cell next cells x c.side y (listed slots x c.live) c.in_range c.across in
        let ly = live slots y b.0 in
        let g : DirectedFacet = least_first (facet_of (cell x) c.side) in
        let own : has_facet s.vertices (row_of slots x) g ≡ true =
        row_has_side s.vertices (cell x) c.side (rows.positive s slots cells complex all x c.live) in
        let back : has_facet s.vertices (row_of slots y) (turned g) ≡ true =
        subst (λ (h : DirectedFacet). has_facet s.vertices (row_of slots y) h ≡ true) b.1.2
        (row_has_side s.vertices (cell y) b.1.0 (rows.positive s slots cells complex all y ly)) in
        let cx = rows.row_in s slots cells complex all x c.live in
        let cy = rows.row_in s slots cells complex all y ly in
        let first : cell_of s.vertices complex.cells g ≡ row_of slots x = cell_is (row_of slots x) g cx own in
        let second : cell_of s.vertices complex.cells (turned g) ≡ row_of slots y =
        cell_is (row_of slots y) (turned g) cy back in
        let cap : HasCapacity s complex.cells (numbers_of g) =
        record {
          three = refl;
          own = has (row_of slots x) g cx own;
          across = has (row_of slots y) (turned g) cy back;
          free =
              ap (is_fixed s.vertices s.scanners) second
              ∙ rows.free s slots cells complex all inside test says none y ly c.is_inside;
        } in
        subst (Contains (cut_facets s.vertices complex test)) (sym c.facet_is)
        (in_filter (is_cut s.vertices complex.cells test) complex.facets (numbers_of g)
        (all.facets_are.all (numbers_of g) cap)
        (and_from (not (test (cell_of s.vertices complex.cells g))) (test (cell_of s.vertices complex.cells (turned g)))
        (ap (λ (row : List ℕ). not (test row)) first
        ∙ not_from_false (test (row_of slots x)) (sym (says x c.live) ∙ c.is_outside))
        (ap test second ∙ sym (says y ly) ∙ c.is_inside)))

    from_cut : (f : List ℕ) → Contains (cut_facets s.vertices complex test) f → IsCutFacet slots inside f
    from_cut f h =
        let p = filter_in (is_cut s.vertices complex.cells test) complex.facets f h in
        let c = all.facets_are.only f p.0 in
        let g : DirectedFacet = facet_at f in
        let q =
        and_parts (not (test (cell_of s.vertices complex.cells g))) (test (cell_of s.vertices complex.cells (turned g))) p.1 in
        let a = first_in g c.own in
        let b = first_in (turned g) c.across in
        let x = rows.cell_with s slots cells complex all (cell_of s.vertices complex.cells g) a.0 in
        let y = rows.cell_with s slots cells complex all (cell_of s.vertices complex.cells (turned g)) b.0 in
        let k : IsSideOf (cell x.0) g =
        has_is s.vertices (live_of slots) cell next cells x.0 g (listed slots x.0 x.1)
        (subst (λ (row : List ℕ). has_facet s.vertices row g ≡ true) (sym x.2) a.1) in
        let m : IsSideOf (cell y.0) (turned g) =
        has_is s.vertices (live_of slots) cell next cells y.0 (turned g) (listed slots y.0 y.1)
        (subst (λ (row : List ℕ). has_facet s.vertices row (turned g) ≡ true) (sym y.2) b.1) in
        record {
          own = x.0;
          side = k.0;
          other = y.0;
          live = x.1;
          in_range = k.1;
          across =
              has_across s.vertices (live_of slots) cell next cells x.0 k.0 y.0 m.0 (listed slots x.0 x.1)
              (listed slots y.0 y.1) k.1 m.1 (m.2 ∙ ap (λ (z : DirectedFacet). turned z) (sym k.2));
          is_outside = says x.0 x.1 ∙ ap test x.2 ∙ not-true (test (cell_of s.vertices complex.cells g)) q.0;
          is_inside = says y.0 y.1 ∙ ap test y.2 ∙ q.1;
          facet_is = c.three ∙ ap (λ (z : DirectedFacet). numbers_of z) (sym k.2);
        }

    cut_is : (facets : List (List ℕ)) → AreCutFacets slots inside facets → facets ≡ cut_facets s.vertices complex test
    cut_is facets are_cut =
        rising_law facets (cut_facets s.vertices complex test) are_cut.rising
        (AllPairs-filter IsBefore (is_cut s.vertices complex.cells test) complex.facets all.facets_are.rising)
        (λ f. ((λ h. to_cut f (are_cut.only f h)), λ h. are_cut.all f (from_cut f h)))

-- ---- in the words of the clauses
module _ (s : Scene) (rising : Complex) (slots : List (Option Cell)) (inside : ℕ → Bool) (test : List ℕ → Bool)
    (over : AreLabelsOver s rising slots inside test) where
  pub cut_in_scene : (facets : List (List ℕ)) → AreCutFacets slots inside facets
      → facets ≡ cut_facets s.vertices rising test
  cut_in_scene = cut_is s slots over.cells rising over.complex_is inside test over.says over.admissible

  -- such labels can be cut
  pub can_be_cut : NoneHasCorner slots inside
  can_be_cut = rows.none_has_corner s slots over.cells rising over.complex_is inside test over.says over.admissible
