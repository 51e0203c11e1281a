-- The one side through which a sight can go out of a cell.
--
-- A sight that came in through facet m and goes out through facet k crosses both, facet k turned round. That facet k is crossed
-- says on which sides of its edges the scanner is, as seen from the sight's vertex; two of its edges lead to the vertex
-- opposite to m. Each of the three other sides says so of two of the three edges there (`at_own`), in a way that no other does,
-- and facet m is written from any of its vertices on (`one_rotated`). So whatever two signs exclude is no exit (`left_ahead`).
-- The laws say that there is an exit, or that the scanner is in the cell; so the sign at the side that is left tells which
-- (`goes_out`, `ends_here`).
use Rattle.std.proofs.Common.{ℕ, zero, suc, ◌<◌, ◌≡◌, ◌⊎◌, inl, inr, ⊎_elim, refl, sym, subst, arith, true, false, true≢false}
use Rattle.std.proofs.Common.{IsTrue, ◌↔◌, ℤ, pos, ◌<ℤ◌, Bool, List, [], ◌∷◌, length, set, get_or, slice_index}
use Rattle.std.specs.Int.{is_positive}
use Rattle.std.proofs.lemmas.Int.{ints}
use Rattle.geo_sign.specs.Rational.{RationalPoint, side, displaced}
use Rattle.geo_sign.specs.Cells.{IsCell}
use Rattle.geo_sign.specs.Sights.{side_of, is_crossed, is_towards, is_cell_of}
use Rattle.geo_sign.specs.Tetrahedron.{Tetrahedron, DirectedFacet, facet, facet_at, facet_of, vertex_of, turned, IsRotated, IsTurned}
use Rattle.geo_sign.specs.Vertices.{Vertices}
use Rattle.geo_sign.proofs.Exchanges.{turned_side}
use Rattle.geo_sign.proofs.Rotations.{side_turned, turned_rotated}
use Rattle.cell_laws.proofs.Crossings.{IsCrossed}
use Rattle.geo_sign.specs.Edges.{HasVertex}
use Rattle.geo_sign.proofs.Facets.{opposite_or_on}
use Rattle.cell_laws.proofs.SightTests.{crossed_of, towards_of, strictly_of}
use Rattle.cell_laws.proofs.SightLaws.{left_of}
use Rattle.cell_laws.specs.Paths.{IsOnSight}
use Rattle.cell_laws.specs.WalkLaws.{IsPassedOnce}
use Rattle.geo_sign.specs.Writings as writings
use Rattle.geo_sign.specs.Point.{Point, origin}
use Rattle.tetra_store.specs.Links.{tetrahedron_from}
use Rattle.tetra_store.specs.Store.{Store, vertices_of}
use Rattle.tetra_store.proofs.Keeps.{vertex_index}
use Rattle.sight.specs.Exits.{IsExit, IsEntered, past, left_behind, left_by}

-- what an exit says of two such sides, at vertices of the facet through which the sight came in
abbrev pub IsBetween : Vertices → (p : ℕ) → RationalPoint → (d before after : ℕ) → Type 0
IsBetween v p s d before after = (pos 0 <ℤ past v p s d before) × (past v p s d after <ℤ pos 0)

-- the second of these, seen from the other end of the edge
between : (v : Vertices) (p : ℕ) (s : RationalPoint) (d before after : ℕ) → pos 0 <ℤ past v p s d before
    → pos 0 <ℤ side (v.at p) (v.at d) (v.at after) s → IsBetween v p s d before after
between v p s d before after h k = grind (arith, turned_side, ints)

-- One of the vertices of f is n, and stays behind: d in its place makes f the facet g in the other direction.
abbrev pub IsOneOf : Vertices → (p : ℕ) → RationalPoint → (d n : ℕ) → (g f : DirectedFacet) → Type 0
IsOneOf v p s d n g f =
    ((n ≡ f.a) × IsTurned g (facet d f.b f.c) × IsBetween v p s d f.c f.b)
    ⊎ (((n ≡ f.b) × IsTurned g (facet f.a d f.c) × IsBetween v p s d f.a f.c)
    ⊎ ((n ≡ f.c) × IsTurned g (facet f.a f.b d) × IsBetween v p s d f.b f.a))

-- the same one vertex on
one_round : (v : Vertices) (p : ℕ) (s : RationalPoint) (d n : ℕ) (g f : DirectedFacet) → IsOneOf v p s d n g f
    → IsOneOf v p s d n g (facet f.b f.c f.a)
one_round v p s d n g f (inl o) =
    inr (inr (o.0, turned_rotated g (facet d f.b f.c) (facet f.b f.c d) o.1 (inr (inl refl)), o.2))
one_round v p s d n g f (inr (inl o)) =
    inl (o.0, turned_rotated g (facet f.a d f.c) (facet d f.c f.a) o.1 (inr (inl refl)), o.2)
one_round v p s d n g f (inr (inr o)) =
    inr (inl (o.0, turned_rotated g (facet f.a f.b d) (facet f.b d f.a) o.1 (inr (inl refl)), o.2))

-- and from any vertex on
one_rotated : (v : Vertices) (p : ℕ) (s : RationalPoint) (d n : ℕ) (g e f : DirectedFacet) → IsRotated e f
    → IsOneOf v p s d n g e → IsOneOf v p s d n g f
one_rotated v p s d n g e f (inl r) o = subst (λ (x : DirectedFacet). IsOneOf v p s d n g x) (sym r) o
one_rotated v p s d n g e f (inr (inl r)) o =
    subst (λ (x : DirectedFacet). IsOneOf v p s d n g x) (sym r) (one_round v p s d n g e o)
one_rotated v p s d n g e f (inr (inr r)) o =
    subst (λ (x : DirectedFacet). IsOneOf v p s d n g x) (sym r)
    (one_round v p s d n g (facet e.b e.c e.a) (one_round v p s d n g e o))

-- the vertices of a facet of t are those of t, from whichever it is written on
own_vertices : (t : Tetrahedron) (m : ℕ) → (writings.IsVertexOf t (facet_of t m).a) × (writings.IsVertexOf t (facet_of t m).b)
    × (writings.IsVertexOf t (facet_of t m).c)
own_vertices t m = grind arith

front_vertices : (t : Tetrahedron) (m : ℕ) (f : DirectedFacet) → IsRotated (facet_of t m) f
    → writings.IsVertexOf t f.a × writings.IsVertexOf t f.b × writings.IsVertexOf t f.c
front_vertices t m f r = grind (arith, own_vertices)

pub front_vertex : (t : Tetrahedron) (m i : ℕ) (numbers : List ℕ) → IsRotated (facet_of t m) (facet_at numbers) → i < 3
    → writings.IsVertexOf t (slice_index numbers i)
front_vertex t m i numbers r l = grind (arith, front_vertices)

-- it does not go out where it came in
pub not_back : (v : Vertices) (p : ℕ) (s : RationalPoint) (f : DirectedFacet) → IsCrossed v p s f → IsCrossed v p s (turned f)
    → ⊥
not_back v p s f h k =
    let a = h.ahead in let b = k.ahead in let e = side_turned v f (turned f) s (inl refl) in
    absurd (omega (arith, ints, a, b, e))

-- where it goes out through side k, vertex k of the facet of side m stays behind
at_own : (v : Vertices) (p : ℕ) (s : RationalPoint) (t : Tetrahedron) (m k : ℕ) → m < 4 → k < 4
    → IsCrossed v p s (facet_of t m) → IsCrossed v p s (turned (facet_of t k))
    → IsOneOf v p s (vertex_of t m) (vertex_of t k) (facet_of t k) (facet_of t m)
at_own v p s t zero zero i j h c = absurd (not_back v p s (facet_of t 0) h c)
at_own v p s t zero (suc zero) i j h c = inl (refl, inl refl, between v p s t.a t.c t.d c.ca c.ab)
at_own v p s t zero (suc (suc zero)) i j h c = inr (inr (refl, inr (inl refl), between v p s t.a t.d t.b c.ca c.ab))
at_own v p s t zero (suc (suc (suc zero))) i j h c = inr (inl (refl, inr (inr refl), between v p s t.a t.b t.c c.ca c.ab))
at_own v p s t (suc zero) zero i j h c = inl (refl, inl refl, between v p s t.b t.d t.c c.ca c.ab)
at_own v p s t (suc zero) (suc zero) i j h c = absurd (not_back v p s (facet_of t 1) h c)
at_own v p s t (suc zero) (suc (suc zero)) i j h c = inr (inl (refl, inl refl, between v p s t.b t.a t.d c.ab c.bc))
at_own v p s t (suc zero) (suc (suc (suc zero))) i j h c = inr (inr (refl, inl refl, between v p s t.b t.c t.a c.bc c.ca))
at_own v p s t (suc (suc zero)) zero i j h c = inl (refl, inr (inl refl), between v p s t.c t.b t.d c.ab c.bc)
at_own v p s t (suc (suc zero)) (suc zero) i j h c = inr (inr (refl, inl refl, between v p s t.c t.d t.a c.bc c.ca))
at_own v p s t (suc (suc zero)) (suc (suc zero)) i j h c = absurd (not_back v p s (facet_of t 2) h c)
at_own v p s t (suc (suc zero)) (suc (suc (suc zero))) i j h c = inr (inl (refl, inl refl, between v p s t.c t.a t.b c.ab c.bc))
at_own v p s t (suc (suc (suc zero))) zero i j h c = inl (refl, inr (inr refl), between v p s t.d t.c t.b c.bc c.ca)
at_own v p s t (suc (suc (suc zero))) (suc zero) i j h c = inr (inl (refl, inl refl, between v p s t.d t.a t.c c.ab c.bc))
at_own v p s t (suc (suc (suc zero))) (suc (suc zero)) i j h c = inr (inr (refl, inl refl, between v p s t.d t.b t.a c.bc c.ca))
at_own v p s t (suc (suc (suc zero))) (suc (suc (suc zero))) i j h c = absurd (not_back v p s (facet_of t 3) h c)
at_own v p s t m (suc (suc (suc (suc k)))) i j h c = absurd (omega (arith, j))
at_own v p s t (suc (suc (suc (suc m)))) k i j h c = absurd (omega (arith, i))

-- ---- the cell at the vertex
pub has_own : (v : Vertices) (p : ℕ) (s : RationalPoint) (t : Tetrahedron) → IsCell v t.a t.b t.c t.d
    → is_towards v p s t ≡ true → writings.IsVertexOf t p
has_own v p s t c h = (towards_of v p s t c h).has

-- its facets at the vertex have the scanner before them, so it goes out through the one opposite to it
pub opposite_ahead : (v : Vertices) (p : ℕ) (s : RationalPoint) (t : Tetrahedron) (k : ℕ) → IsCell v t.a t.b t.c t.d
    → is_towards v p s t ≡ true → IsExit v p s t k → p ≡ vertex_of t k
opposite_ahead v p s t k c h x =
    let w = towards_of v p s t c h in
    ⊎_elim (λ (e : p ≡ vertex_of t k). e)
    (λ (e : HasVertex (facet_of t k) p). let a = w.faces k e in
    let b = (left_of v p s (facet_of t k) x.left).ahead in
    absurd (omega (arith, ints, a, b)))
    (opposite_or_on t k p w.has)

-- ---- a cell on a sight
-- the cell is on the sight
pub on_sight : (v : Vertices) (p : ℕ) (s : RationalPoint) (t : Tetrahedron) (k : ℕ) → IsEntered v p s t k → IsOnSight v p s t
on_sight v p s t k h = grind arith

-- the scanner is behind the one side that is left, so the sight goes out there
pub goes_out : (v : Vertices) (p : ℕ) (s : RationalPoint) (t : Tetrahedron) (m k : ℕ) → IsPassedOnce v p s t → IsEntered v p s t m
    → ((j : ℕ) → IsExit v p s t j → j ≡ k) → side_of v (facet_of t k) s <ℤ pos 0 → IsExit v p s t k
goes_out v p s t m k h e only b =
    ⊎_elim
    (λ (z : (j : ℕ) × (j < 4) × (is_crossed v p s (turned (facet_of t j)) ≡ true)).
    let x : IsExit v p s t z.0 = record { side_in = z.1; left = z.2 } in subst (λ (j : ℕ). IsExit v p s t j) (only z.0 x) x)
    (λ (z : is_cell_of v s t ≡ true). let a = (strictly_of v s t z).at k in absurd (omega (arith, ints, a, b)))
    (h.exit_or_end (on_sight v p s t m e))

-- it is not, so the scanner is in the cell
pub ends_here : (v : Vertices) (p : ℕ) (s : RationalPoint) (t : Tetrahedron) (m k : ℕ) → IsPassedOnce v p s t → IsEntered v p s t m
    → ((j : ℕ) → IsExit v p s t j → j ≡ k) → ¬ (side_of v (facet_of t k) s <ℤ pos 0) → is_cell_of v s t ≡ true
ends_here v p s t m k h e only b =
    ⊎_elim
    (λ (z : (j : ℕ) × (j < 4) × (is_crossed v p s (turned (facet_of t j)) ≡ true)).
    let x : IsExit v p s t z.0 = record { side_in = z.1; left = z.2 } in
    absurd (b (subst (λ (j : ℕ). side_of v (facet_of t j) s <ℤ pos 0) (only z.0 x) (left_of v p s (facet_of t z.0) z.2).ahead)))
    (λ (z : is_cell_of v s t ≡ true). z)
    (h.exit_or_end (on_sight v p s t m e))

-- ---- how the sight came in
pub at_vertex : (v : Vertices) (p : ℕ) (s : RationalPoint) (t : Tetrahedron) (k : ℕ) → IsEntered v p s t k → k ≡ 4
    → is_towards v p s t ≡ true
at_vertex v p s t k h e = grind arith

pub through_side : (v : Vertices) (p : ℕ) (s : RationalPoint) (t : Tetrahedron) (k : ℕ) → IsEntered v p s t k → ¬ (k ≡ 4)
    → (k < 4) × (is_crossed v p s (facet_of t k) ≡ true)
through_side v p s t k h e = grind arith

-- `at_own` at the facet written from any vertex on
pub one_of : (v : Vertices) (p : ℕ) (s : RationalPoint) (t : Tetrahedron) (m k : ℕ) (f : DirectedFacet)
    → IsRotated (facet_of t m) f → IsEntered v p s t m → ¬ (m ≡ 4) → IsExit v p s t k
    → IsOneOf v p s (vertex_of t m) (vertex_of t k) (facet_of t k) f
one_of v p s t m k f r h e x =
    let z = through_side v p s t m h e in
    one_rotated v p s (vertex_of t m) (vertex_of t k) (facet_of t k) (facet_of t m) f r
    (at_own v p s t m k z.0 x.side_in (crossed_of v p s (facet_of t m) z.1) (crossed_of v p s (turned (facet_of t k)) x.left))

-- ---- answers of tests
pub yes : {A : Type 0} → IsTrue true ↔ A → A
yes h = h.0 refl

pub no : {A : Type 0} → IsTrue false ↔ A → ¬ A
no h = λ a. true≢false (sym (h.1 a))

-- ---- three tests
-- whether a number is above zero
pub positive_so : (n : ℤ) → IsTrue (is_positive n) ↔ (pos 0 <ℤ n)
positive_so n = grind (arith, ints)

positive_is : (t : Bool) (n : ℤ) → IsTrue t ↔ (pos 0 <ℤ n) → t ≡ is_positive n
positive_is true n h = sym ((positive_so n).1 (h.0 refl))
positive_is false n h = grind (arith, positive_so)

pub left_same : (a b c : Bool) (x y z : ℤ) → IsTrue a ↔ (pos 0 <ℤ x) → IsTrue b ↔ (pos 0 <ℤ y) → IsTrue c ↔ (pos 0 <ℤ z)
    → left_behind a b c ≡ left_by x y z
left_same a b c x y z h k l = grind (arith, positive_is)

-- what stays behind, and what the facet becomes
abbrev pub IsLeftBehind : (d n : ℕ) (g f : DirectedFacet) → ℕ → Type 0
IsLeftBehind d n g f zero = (n ≡ f.a) × IsTurned g (facet d f.b f.c)
IsLeftBehind d n g f (suc zero) = (n ≡ f.b) × IsTurned g (facet f.a d f.c)
IsLeftBehind d n g f (suc (suc i)) = (n ≡ f.c) × IsTurned g (facet f.a f.b d)

pub left_ahead : (v : Vertices) (p : ℕ) (s : RationalPoint) (d n : ℕ) (g f : DirectedFacet) → IsOneOf v p s d n g f
    → (x y z : Bool) → IsTrue x ↔ (pos 0 <ℤ past v p s d f.a) → IsTrue y ↔ (pos 0 <ℤ past v p s d f.b)
    → IsTrue z ↔ (pos 0 <ℤ past v p s d f.c) → IsLeftBehind d n g f (left_behind x y z)
left_ahead v p s d n g f x y z h a b c = grind (arith, yes, ints, no)

-- the same of three numbers in a list
pub behind_in : (d n : ℕ) (g : DirectedFacet) (numbers : List ℕ) (i : ℕ) → length numbers ≡ 3 → i < 3
    → IsLeftBehind d n g (facet_at numbers) i → (n ≡ slice_index numbers i) × IsTurned g (facet_at (set numbers i d))
behind_in d n g [] i l j h = absurd (omega (arith, l))
behind_in d n g (a ∷ []) i l j h = absurd (omega (arith, l))
behind_in d n g (a ∷ b ∷ []) i l j h = absurd (omega (arith, l))
behind_in d n g (a ∷ b ∷ c ∷ x ∷ xs) i l j h = absurd (omega (arith, l))
behind_in d n g (a ∷ b ∷ c ∷ []) zero l j h = h
behind_in d n g (a ∷ b ∷ c ∷ []) (suc zero) l j h = h
behind_in d n g (a ∷ b ∷ c ∷ []) (suc (suc zero)) l j h = h
behind_in d n g (a ∷ b ∷ c ∷ []) (suc (suc (suc i))) l j h = absurd (omega (arith, j))

-- points that are the same have the same side
pub side_same : (q p a d x y z : Point) → p ≡ x → a ≡ y → d ≡ z → (yes : Bool) → IsTrue yes ↔ (pos 0 <ℤ side p a d (displaced q))
    → IsTrue yes ↔ (pos 0 <ℤ side x y z (displaced q))
side_same q p a d x y z ep ea ed yes h = grind arith

-- the side of the points that were read is that of the vertices
pub past_of : (s : Store) (v : List ℕ) (vertex m x : ℕ) (q p a d : Point) → m < 4 → p ≡ get_or s.points vertex origin
    → a ≡ get_or s.points x origin → d ≡ get_or s.points (slice_index v m) origin → (yes : Bool)
    → IsTrue yes ↔ (pos 0 <ℤ side p a d (displaced q))
    → IsTrue yes ↔ (pos 0 <ℤ past (vertices_of s) vertex (displaced q) (vertex_of (tetrahedron_from v) m) x)
past_of s v vertex m x q p a d l ep ea ed yes h = grind (arith, side_same, vertex_index)
