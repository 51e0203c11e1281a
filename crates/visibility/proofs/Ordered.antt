-- How facets that have a capacity are written, and that there is one list of them.
use Rattle.std.proofs.Common.{ℕ, ◌<◌, ◌≡◌, ◌≢◌, ap, subst, ◌∙◌, arith, Bool, true, ◌||◌, ◌⊎◌, inl, inr, ⊎_elim, List, [], ◌∷◌}
use Rattle.std.proofs.Common.{Contains}
use Rattle.std.proofs.lemmas.Bool.{or_cases, eqb-true}
use Rattle.geo_sign.proofs.CellRows.{last_below}
use Rattle.geo_sign.specs.Tetrahedron.{Tetrahedron, DirectedFacet, facet_of, facet_at, numbers_of, is_same_facet, is_among}
use Rattle.geo_sign.specs.Vertices.{Vertices}
use Rattle.geo_sign.specs.Cells.{IsRisingCell, written}
use Rattle.geo_sign.proofs.Rising.{rising_law, cell_list_law}
use Rattle.visibility.specs.Scenes.{Scene}
use Rattle.visibility.specs.Complexes.{Complex}
use Rattle.visibility.specs.Votes.{HasCapacity, IsFacetList}
use Rattle.visibility.specs.Laws.{IsOrdered, FacetsAreOrdered, OneComplex}

-- the numbers of two facets that pass the test
same_numbers : (f g : DirectedFacet) → is_same_facet f g ≡ true → (f.a ≡ g.a) × (f.b ≡ g.b) × (f.c ≡ g.c)
same_numbers f g h = grind (arith, eqb-true)

-- which of the four directed facets it is
abbrev pub OneOf : Tetrahedron → DirectedFacet → Type 0
OneOf t f =
    ((t.b ≡ f.a) × (t.d ≡ f.b) × (t.c ≡ f.c))
    ⊎ (((t.a ≡ f.a) × (t.c ≡ f.b) × (t.d ≡ f.c))
    ⊎ (((t.a ≡ f.a) × (t.d ≡ f.b) × (t.b ≡ f.c)) ⊎ ((t.a ≡ f.a) × (t.b ≡ f.b) × (t.c ≡ f.c))))

pub one_of : (t : Tetrahedron) (f : DirectedFacet) → is_among t f ≡ true → OneOf t f
one_of t f h =
    let first : Bool = is_same_facet (facet_of t 0) f in
    let second : Bool = is_same_facet (facet_of t 1) f in
    let third : Bool = is_same_facet (facet_of t 2) f in
    let last : Bool = is_same_facet (facet_of t 3) f in
    ⊎_elim (λ p. ⊎_elim
    (λ q. ⊎_elim (λ r. inl (same_numbers (facet_of t 0) f r)) (λ r. inr (inl (same_numbers (facet_of t 1) f r)))
    (or_cases first second q)) (λ q. inr (inr (inl (same_numbers (facet_of t 2) f q)))) (or_cases (first || second) third p))
    (λ p. inr (inr (inr (same_numbers (facet_of t 3) f p))))
    (or_cases (first || second || third) last h)

-- four numbers below n, of which the first is the smallest and the second the next
record IsRisingShape (n : ℕ) (t : Tetrahedron) : Type 0 where
  a_b : t.a < t.b
  b_c : t.b < t.c
  b_d : t.b < t.d
  c_d : t.c ≢ t.d
  c_below : t.c < n
  d_below : t.d < n

shape : (v : Vertices) (row : List ℕ) → IsRisingCell v row → IsRisingShape v.count (written v row)
unfolding written
shape v [] h = elim h [ ]
shape v (a ∷ []) h = elim h [ ]
shape v (a ∷ b ∷ []) h = elim h [ ]
shape v (a ∷ b ∷ c ∷ []) h = elim h [ ]
shape v (a ∷ b ∷ c ∷ d ∷ e ∷ rest) h = elim h [ ]
shape v (a ∷ b ∷ c ∷ d ∷ []) h = grind (arith, last_below)

ordered_one : (n : ℕ) (t : Tetrahedron) (f : List ℕ) → f ≡ numbers_of (facet_at f) → IsRisingShape n t → OneOf t (facet_at f)
    → IsOrdered n f
ordered_one n t f three s (inl p) = grind arith
ordered_one n t f three s (inr (inl p)) = grind arith
ordered_one n t f three s (inr (inr (inl p))) = grind arith
ordered_one n t f three s (inr (inr (inr p))) = grind arith

pub facets_are_ordered : FacetsAreOrdered
facets_are_ordered = λ s complex o f has.
    let h : HasCapacity s complex.cells f = o.facets_are.only f has in
    let row : List ℕ = h.own.1 in
    let listed : Contains complex.cells row = (h.own.0, h.own.2, h.own.3) in
    ordered_one s.vertices.count (written s.vertices row) f h.three (shape s.vertices row (o.cells_are.cells row listed))
    (one_of (written s.vertices row) (facet_at f) h.own.4)

one_list : (s : Scene) (cells facets others : List (List ℕ)) → IsFacetList s cells facets → IsFacetList s cells others
    → facets ≡ others
one_list s cells facets others h k =
    rising_law facets others h.rising k.rising (λ f. (λ a. k.all f (h.only f a), λ b. h.all f (k.only f b)))

pub one_complex : OneComplex
one_complex = λ s complex other h k.
    let cells : complex.cells ≡ other.cells = cell_list_law s.vertices complex.cells other.cells h.cells_are k.cells_are in
    let facets : complex.facets ≡ other.facets =
    one_list s other.cells complex.facets other.facets
    (subst (λ (rows : List (List ℕ)). IsFacetList s rows complex.facets) cells h.facets_are) k.facets_are in
    ap (λ (rows : List (List ℕ)). let c : Complex = record { cells = rows; facets = complex.facets } in c) cells
    ∙ ap (λ (rows : List (List ℕ)). let c : Complex = record { cells = other.cells; facets = rows } in c) facets
