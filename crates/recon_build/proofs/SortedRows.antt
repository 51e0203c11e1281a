-- Rows that were gathered in any order and then sorted are those of the rising lists. The cells or facets that sorted rows are
-- about rise, since no two are equal, and they are the members of the rising list that pass the same test; and a row is made of
-- what it is about.
use Rattle.std.proofs.Common.{ℕ, ◌<◌, ◌≤◌, ◌^◌, ◌≡◌, ◌≢◌, ◌↔◌, ◌⊎◌, inl, inr, ⊎_elim, not, refl, ap, sym, subst, ◌∙◌, arith}
use Rattle.std.proofs.Common.{Bool, List, [], ◌∷◌, length, map, filter, get_or, eqb, AllPairs, Contains}
use Rattle.std.specs.List.Sorted.{IsPermutation, IsNonDecreasingBy}
use Rattle.std.proofs.lemmas.List.{get_or-map, get_or_default, length-map, same_lists}
use Rattle.std.proofs.lemmas.List.Elements.{Contains-get_or}
use Rattle.std.proofs.lemmas.List.Kept.{AllPairs-filter}
use Rattle.std.proofs.lemmas.List.Sorted.{IsPermutation-map, IsPermutation-sym, Contains-permutation}
use Rattle.geo_sign.proofs.CellRows.{last_below}
use Rattle.certificate.specs.declared.certificate.FlowRow.{FlowRow}
use Rattle.certificate.specs.declared.certificate.SinkRow.{SinkRow}
use Rattle.geo_sign.specs.Cells.{IsRisingCell}
use Rattle.geo_sign.specs.Rising.{IsBefore}
use Rattle.geo_sign.specs.Tetrahedron.{tetrahedron, DirectedFacet, facet_at, numbers_of}
use Rattle.geo_sign.specs.Vertices.{Vertices}
use Rattle.geo_sign.proofs.Rising.{rising_law}
use Rattle.geo_sign.proofs.RowLaws.{by_rising}
use Rattle.solution.specs.Solutions.{flow_row, sink_row, flow_rows, sink_rows}
use Rattle.surface.proofs.CutList.{filter_in, in_filter}
use Rattle.visibility.specs.Complexes.{Complex}
use Rattle.visibility.specs.Laws.{IsOrdered}
use Rattle.visibility.specs.Listings.{AreOnce, IsListingOf}
use Rattle.visibility.specs.Scenes.{Scene}
use Rattle.visibility.proofs.Indices.{once_permuted}
use Rattle.visibility.proofs.Listings.{cells_once, facets_once, facet_back, rising_cell}
use Rattle.visibility.proofs.Ordered.{facets_are_ordered}
use Rattle.cell_net.specs.Gathered.{row_key, facet_key}
use Rattle.cell_net.proofs.KeyOrders.{AreSmall, rows_before, facets_before}
use Rattle.recon_build.specs.RowKeys.{key_of_flow, key_of_sink}

-- of two the one that has no larger number is before the other, or they are equal
abbrev KeepOrder : (List ℕ → ℕ) → List (List ℕ) → Type 0
KeepOrder n keys = (k l : List ℕ) → Contains keys k → Contains keys l → n k ≤ n l → IsBefore k l ⊎ (k ≡ l)

sorted_rows : {X : Type 0} (about : X → List ℕ) (make : List ℕ → X) (n : List ℕ → ℕ) (keys rising : List (List ℕ))
    (rows : List X)
    → ((k : List ℕ) → about (make k) ≡ k) → KeepOrder n keys → AreOnce keys → AllPairs IsBefore rising
    → ((k : List ℕ) → Contains keys k ↔ Contains rising k) → IsPermutation (map make keys) rows
    → IsNonDecreasingBy (λ row. n (about row)) rows → rows ≡ map make rising
sorted_rows {X} about make n keys rising rows back order once rises same moved sorted = rows_are ∙ ap (map make) names_are
  where
    names : List (List ℕ)
    names = map about rows

    named : (ks : List (List ℕ)) → map about (map make ks) ≡ ks
    named [] = refl
    named (k ∷ ks) = ap (λ (x : List ℕ). x ∷ map about (map make ks)) (back k) ∙ ap (λ (xs : List (List ℕ)). k ∷ xs) (named ks)

    permuted : IsPermutation keys names
    permuted =
        subst (λ (ks : List (List ℕ)). IsPermutation ks names) (named keys) (IsPermutation-map about (map make keys) rows moved)

    in_keys : (k : List ℕ) → Contains names k → Contains keys k
    in_keys k c = Contains-permutation names keys k (IsPermutation-sym keys names permuted) c

    name_at : (i : ℕ) (d : List ℕ) → i < length rows → get_or names i d ≡ about (get_or rows i (make []))
    name_at i d l = get_or-map about rows i (make []) d l

    names_rise : AllPairs IsBefore names
    names_rise i j d l m =
        let e : length names ≡ length rows = length-map rows about in
        let lj : j < length rows = omega (arith, m, e) in
        let li : i < length rows = omega (arith, l, lj) in
        let a : List ℕ = get_or names i d in
        let b : List ℕ = get_or names j d in
        let ca : Contains keys a = in_keys a (Contains-get_or names i d (omega (arith, li, e))) in
        let cb : Contains keys b = in_keys b (Contains-get_or names j d m) in
        let le : n a ≤ n b =
        subst (λ (x : List ℕ). n x ≤ n b) (sym (name_at i d li))
        (subst (λ (y : List ℕ). n (about (get_or rows i (make []))) ≤ n y) (sym (name_at j d lj))
        (sorted i j (make []) (omega (arith, l)) lj)) in
        ⊎_elim (λ (h : IsBefore a b). h) (λ (h : a ≡ b). absurd (once_permuted keys names permuted once i j d l m h))
        (order a b ca cb le)

    names_are : names ≡ rising
    names_are =
        rising_law names rising names_rise rises
        (λ k. (λ c. (same k).0 (in_keys k c), λ c. Contains-permutation keys names k permuted ((same k).1 c)))

    -- a row is made of what it is about
    made : (row : X) → Contains rows row → make (about row) ≡ row
    made row c =
        let h : Contains (map make keys) row =
        Contains-permutation rows (map make keys) row (IsPermutation-sym (map make keys) rows moved) c in
        let l : h.0 < length keys = (let x = h.1 in omega (arith, x, length-map keys make)) in
        let is : row ≡ make (get_or keys h.0 []) = sym h.2 ∙ get_or-map make keys h.0 [] row l in
        ap (λ (r : X). make (about r)) is ∙ ap make (back (get_or keys h.0 [])) ∙ sym is

    rows_are : rows ≡ map make names
    rows_are =
        let e : length names ≡ length rows = length-map rows about in
        same_lists rows (map make names) (sym e ∙ sym (length-map names make))
        (λ i d l.
        let here : get_or rows i d ≡ get_or rows i (make []) = get_or_default rows i d (make []) l in
        sym (made (get_or rows i d) (Contains-get_or rows i d l))
        ∙ ap (λ (r : X). make (about r)) here ∙ ap make (sym (name_at i [] l))
        ∙ sym (get_or-map make names i [] d (omega (arith, l, e))))

-- ---- the numbers of cells and of facets keep their order
cells_keep : (v : Vertices) → v.count ≤ 2 ^ 32 → (k l : List ℕ) → IsRisingCell v k → IsRisingCell v l → row_key k ≤ row_key l
    → IsBefore k l ⊎ (k ≡ l)
cells_keep v few k l = by_rising v (λ row. IsRisingCell v l → row_key row ≤ row_key l → IsBefore row l ⊎ (row ≡ l)) first k
  where
    first : (a b c d : ℕ) → IsRisingCell v (a ∷ b ∷ c ∷ d ∷ []) → IsRisingCell v l → row_key (a ∷ b ∷ c ∷ d ∷ []) ≤ row_key l
        → IsBefore (a ∷ b ∷ c ∷ d ∷ []) l ⊎ ((a ∷ b ∷ c ∷ d ∷ []) ≡ l)
    first a b c d h =
        by_rising v
        (λ row. row_key (a ∷ b ∷ c ∷ d ∷ []) ≤ row_key row → IsBefore (a ∷ b ∷ c ∷ d ∷ []) row ⊎ ((a ∷ b ∷ c ∷ d ∷ []) ≡ row))
        second l
      where
        small : (e f g i : ℕ) → IsRisingCell v (e ∷ f ∷ g ∷ i ∷ []) → AreSmall (tetrahedron e f g i)
        small e f g i r =
            let below : i < v.count = last_below v e f g i r.3 in
            let x = r.0 in let y = r.1 in let z = r.2 in
            record {
              a = omega (arith, x, y, z, below, few);
              b = omega (arith, y, z, below, few);
              c = omega (arith, z, below, few);
              d = omega (arith, below, few);
            }

        second : (e f g i : ℕ) → IsRisingCell v (e ∷ f ∷ g ∷ i ∷ [])
            → row_key (a ∷ b ∷ c ∷ d ∷ []) ≤ row_key (e ∷ f ∷ g ∷ i ∷ [])
            → IsBefore (a ∷ b ∷ c ∷ d ∷ []) (e ∷ f ∷ g ∷ i ∷ []) ⊎ ((a ∷ b ∷ c ∷ d ∷ []) ≡ (e ∷ f ∷ g ∷ i ∷ []))
        second e f g i r le = rows_before (tetrahedron a b c d) (tetrahedron e f g i) (small a b c d h) (small e f g i r) le

facets_keep : (n : ℕ) → n ≤ 2 ^ 32 → (k l : List ℕ) → IsOrdered n k → IsOrdered n l → facet_key k ≤ facet_key l
    → IsBefore k l ⊎ (k ≡ l)
facets_keep n few k l p q le =
    let pb = p.second_below in let pc = p.third_below in let qb = q.second_below in let qc = q.third_below in
    let key : facet_key (numbers_of (facet_at k)) ≤ facet_key (numbers_of (facet_at l)) =
    subst (λ (x : List ℕ). facet_key x ≤ facet_key (numbers_of (facet_at l))) p.three
    (subst (λ (y : List ℕ). facet_key k ≤ facet_key y) q.three le) in
    ⊎_elim
    (λ (h : IsBefore (numbers_of (facet_at k)) (numbers_of (facet_at l))).
    let there : IsBefore k l ⊎ (k ≡ l) =
    inl (subst (λ (x : List ℕ). IsBefore x l) (sym p.three)
    (subst (λ (y : List ℕ). IsBefore (numbers_of (facet_at k)) y) (sym q.three) h)) in
    there)
    (λ (e : facet_at k ≡ facet_at l).
    let there : IsBefore k l ⊎ (k ≡ l) = inr (p.three ∙ ap (λ (f : DirectedFacet). numbers_of f) e ∙ sym q.three) in
    there)
    (facets_before (facet_at k) (facet_at l) (record { b = omega (arith, pb, few); c = omega (arith, pc, few) })
    (record { b = omega (arith, qb, few); c = omega (arith, qc, few) }) key)

-- what passes a test is the same in both orders
filters_same : (test : List ℕ → Bool) (xs ys : List (List ℕ)) → IsPermutation xs ys → (k : List ℕ) → Contains (filter test ys) k
    ↔ Contains (filter test xs) k
filters_same test xs ys p k = (
  λ c.
      (let h = filter_in test ys k c in in_filter test xs k (Contains-permutation ys xs k (IsPermutation-sym xs ys p) h.0) h.1),
  λ c. (let h = filter_in test xs k c in in_filter test ys k (Contains-permutation xs ys k p h.0) h.1),
)

module _ (s : Scene) (few : s.vertices.count ≤ 2 ^ 32) (listing : Complex) (h : IsListingOf s listing) where
  cells_in : (test : List ℕ → Bool) → KeepOrder row_key (filter test listing.cells)
  cells_in test k l ck cl =
      cells_keep s.vertices few k l (rising_cell s listing h k (filter_in test listing.cells k ck).0)
      (rising_cell s listing h l (filter_in test listing.cells l cl).0)

  facets_in : (test : List ℕ → Bool) → KeepOrder facet_key (filter test listing.facets)
  facets_in test k l ck cl =
      facets_keep s.vertices.count few k l
      (facets_are_ordered s h.complex h.complex_is k (facet_back s listing h k (filter_in test listing.facets k ck).0))
      (facets_are_ordered s h.complex h.complex_is l (facet_back s listing h l (filter_in test listing.facets l cl).0))

  pub inside_are : (test : List ℕ → Bool) (rows : List (List ℕ)) → IsPermutation (filter test listing.cells) rows
      → IsNonDecreasingBy row_key rows → rows ≡ filter test h.complex.cells
  inside_are test rows moved sorted =
      sorted_rows (λ k. k) (λ k. k) row_key (filter test listing.cells) (filter test h.complex.cells) rows (λ k. refl)
      (cells_in test)
      (AllPairs-filter (λ x y. x ≢ y) test listing.cells (cells_once s listing h))
      (AllPairs-filter IsBefore test h.complex.cells h.complex_is.cells_are.rising)
      (filters_same test h.complex.cells listing.cells h.cells_are)
      (subst (λ (xs : List (List ℕ)). IsPermutation xs rows) (sym (unchanged (filter test listing.cells))) moved) sorted
      ∙ unchanged (filter test h.complex.cells)
    where
      unchanged : (xs : List (List ℕ)) → map (λ (k : List ℕ). k) xs ≡ xs
      unchanged [] = refl
      unchanged (x ∷ xs) = ap (λ (ys : List (List ℕ)). x ∷ ys) (unchanged xs)

  pub flow_are : (on : List ℕ → ℕ) (rows : List FlowRow) → IsPermutation (flow_rows listing.facets on) rows
      → IsNonDecreasingBy key_of_flow rows → rows ≡ flow_rows h.complex.facets on
  flow_are on rows moved sorted =
      let test : List ℕ → Bool = λ key. not (eqb (on key) 0) in
      sorted_rows (λ (row : FlowRow). row.facet) (λ key. flow_row key (on key)) facet_key (filter test listing.facets)
      (filter test h.complex.facets) rows (λ k. refl) (facets_in test)
      (AllPairs-filter (λ x y. x ≢ y) test listing.facets (facets_once s listing h))
      (AllPairs-filter IsBefore test h.complex.facets h.complex_is.facets_are.rising)
      (filters_same test h.complex.facets listing.facets h.facets_are) moved sorted

  pub sinks_are : (at : List ℕ → ℕ) (rows : List SinkRow) → IsPermutation (sink_rows listing.cells at) rows
      → IsNonDecreasingBy key_of_sink rows → rows ≡ sink_rows h.complex.cells at
  sinks_are at rows moved sorted =
      let test : List ℕ → Bool = λ key. not (eqb (at key) 0) in
      sorted_rows (λ (row : SinkRow). row.cell) (λ key. sink_row key (at key)) row_key (filter test listing.cells)
      (filter test h.complex.cells) rows (λ k. refl) (cells_in test)
      (AllPairs-filter (λ x y. x ≢ y) test listing.cells (cells_once s listing h))
      (AllPairs-filter IsBefore test h.complex.cells h.complex_is.cells_are.rising)
      (filters_same test h.complex.cells listing.cells h.cells_are) moved sorted
