-- The tests of sights that geo_sign defines, against what they say.
--
-- Stands on: Sides, Near and Crossings (what they say).
use Rattle.std.proofs.Common.{ℕ, zero, suc, ◌≡◌, refl, ap, ap₂, sym, ◌∙◌, ◌⊎◌, inl, inr, ⊎_elim, arith, Bool, true, false}
use Rattle.std.proofs.Common.{true≢false, ◌&&◌, ◌||◌, eqb, int_lt, ℤ, pos, neg_ℤ, ◌<ℤ◌}
use Rattle.std.proofs.lemmas.Bool.{eqb-true, or_left, or_right, and_from, or_cases, and_parts, eq-eqb}
use Rattle.std.proofs.lemmas.Int.{ints}
use Rattle.geo_sign.specs.Rational.{RationalPoint, rational, side}
use Rattle.geo_sign.specs.Tetrahedron.{Tetrahedron, DirectedFacet, facet_of, vertex_of}
use Rattle.geo_sign.specs.Vertices.{Vertices}
use Rattle.geo_sign.specs.Sights.{side_of, is_positive, is_negative, is_crossed, has_vertex, is_behind, is_towards, is_cell_of}
use Rattle.geo_sign.specs.Writings.{IsVertexOf}
use Rattle.geo_sign.specs.Places.{IsStrictlyIn}
use Rattle.geo_sign.specs.NearPlaces.{reversed}
use Rattle.geo_sign.proofs.Rewritings.{IsCellOf, orientation_at}
use Rattle.geo_sign.proofs.SignTests.{above_true, above_is, below_true, below_is}
use Rattle.geo_sign.specs.Edges.{HasVertex}
use Rattle.geo_sign.proofs.Facets.{opposite_or_on}
use Rattle.cell_laws.proofs.Sides.{inward, opposite, on_facet}
use Rattle.cell_laws.proofs.Near.{IsTowards}
use Rattle.cell_laws.proofs.Crossings.{IsCrossed}
use Rattle.cell_laws.proofs.Scanners.{side_reversed}

-- ---- tests joined
any_of : (a b c d : Bool) → (a || b || c || d) ≡ true → (a ≡ true) ⊎ ((b ≡ true) ⊎ ((c ≡ true) ⊎ (d ≡ true)))
any_of true b c d h = inl refl
any_of false true c d h = inr (inl refl)
any_of false false true d h = inr (inr (inl refl))
any_of false false false d h = inr (inr (inr h))

any_is : (a b c d : Bool) → (a ≡ true) ⊎ ((b ≡ true) ⊎ ((c ≡ true) ⊎ (d ≡ true))) → (a || b || c || d) ≡ true
any_is true b c d h = refl
any_is false true c d h = refl
any_is false false true d h = refl
any_is false false false d (inl h) = absurd (true≢false (sym h))
any_is false false false d (inr (inl h)) = absurd (true≢false (sym h))
any_is false false false d (inr (inr (inl h))) = absurd (true≢false (sym h))
any_is false false false d (inr (inr (inr h))) = h

-- ---- a crossed facet
pub crossed_of : (v : Vertices) (p : ℕ) (s : RationalPoint) (f : DirectedFacet) → is_crossed v p s f ≡ true → IsCrossed v p s f
unfolding is_crossed
crossed_of v p s f h =
    let A = is_positive (side_of v f s) in let B = is_negative (side_of v f (rational (v.at p))) in
    let C = is_positive (side (v.at p) (v.at f.a) (v.at f.b) s) in
    let D = is_positive (side (v.at p) (v.at f.b) (v.at f.c) s) in
    let E = is_positive (side (v.at p) (v.at f.c) (v.at f.a) s) in
    let z = five A B C D E h in
    record {
      ahead = above_true (side_of v f s) z.0;
      behind = below_true (side_of v f (rational (v.at p))) z.1;
      ab = above_true (side (v.at p) (v.at f.a) (v.at f.b) s) z.2;
      bc = above_true (side (v.at p) (v.at f.b) (v.at f.c) s) z.3;
      ca = above_true (side (v.at p) (v.at f.c) (v.at f.a) s) z.4;
    }
  where
    five : (a b c d e : Bool) → (a && b && c && d && e) ≡ true → (a ≡ true) × (b ≡ true) × (c ≡ true) × (d ≡ true) × (e ≡ true)
    five true true true true true h = (refl, refl, refl, refl, refl)
    five true true true true false h = absurd (true≢false (sym h))
    five true true true false e h = absurd (true≢false (sym h))
    five true true false d e h = absurd (true≢false (sym h))
    five true false c d e h = absurd (true≢false (sym h))
    five false b c d e h = absurd (true≢false (sym h))

pub crossed_is : (v : Vertices) (p : ℕ) (s : RationalPoint) (f : DirectedFacet) → IsCrossed v p s f → is_crossed v p s f ≡ true
unfolding is_crossed
crossed_is v p s f h = grind (arith, above_is, below_is)

-- ---- the four facets
four : (a b c d : Bool) → (a && b && c && d) ≡ true → (a ≡ true) × (b ≡ true) × (c ≡ true) × (d ≡ true)
four true true true true h = (refl, refl, refl, refl)
four true true true false h = absurd (true≢false (sym h))
four true true false d h = absurd (true≢false (sym h))
four true false c d h = absurd (true≢false (sym h))
four false b c d h = absurd (true≢false (sym h))

four_is : (a b c d : Bool) → a ≡ true → b ≡ true → c ≡ true → d ≡ true → (a && b && c && d) ≡ true
four_is a b c d h i j k = ap₂ (λ x y. x && y && c && d) h i ∙ ap₂ (λ x y. true && true && x && y) j k

pub strictly_of : (v : Vertices) (s : RationalPoint) (t : Tetrahedron) → is_cell_of v s t ≡ true → IsStrictlyIn v t s
unfolding is_cell_of
strictly_of v s t h = grind (arith, four, above_true)

pub strictly_is : (v : Vertices) (s : RationalPoint) (t : Tetrahedron) → IsStrictlyIn v t s → is_cell_of v s t ≡ true
unfolding is_cell_of
strictly_is v s t h =
    four_is (is_positive (inward v t 0 s)) (is_positive (inward v t 1 s)) (is_positive (inward v t 2 s))
    (is_positive (inward v t 3 s)) (above_is (inward v t 0 s) (h.at 0)) (above_is (inward v t 1 s) (h.at 1))
    (above_is (inward v t 2 s) (h.at 2)) (above_is (inward v t 3 s) (h.at 3))

-- ---- the facets at a vertex
-- the vertex opposite to a facet is not on it
not_both :
    (v : Vertices) (t : Tetrahedron) (p k : ℕ) → pos 0 <ℤ orientation_at v t → HasVertex (facet_of t k) p → vertex_of t k ≡ p →
    ⊥
not_both v t p k o h e =
    let a : inward v t k (rational (v.at p)) ≡ orientation_at v t =
    ap (λ (x : ℕ). inward v t k (rational (v.at x))) (sym e) ∙ opposite v t k in
    let b = on_facet v (facet_of t k) p h in
    absurd (omega (arith, ints, a, b, o))

pub towards_of :
    (v : Vertices) (p : ℕ) (s : RationalPoint) (t : Tetrahedron) → IsCellOf v t → is_towards v p s t ≡ true → IsTowards v t p s
unfolding is_towards
towards_of v p s t c h = record { has = has (and_parts (has_vertex t p) _ h).0; faces = by }
  where
    has : has_vertex t p ≡ true → IsVertexOf t p
    has e =
        ⊎_elim (λ x. inl (sym (eqb-true t.a p x)))
        (⊎_elim (λ x. inr (inl (sym (eqb-true t.b p x))))
        (⊎_elim (λ x. inr (inr (inl (sym (eqb-true t.c p x))))) (λ x. inr (inr (inr (sym (eqb-true t.d p x)))))))
        (any_of (eqb t.a p) (eqb t.b p) (eqb t.c p) (eqb t.d p) e)

    test : ℕ → Bool
    test k = eqb (vertex_of t k) p || is_positive (inward v t k s)

    z : (test 0 ≡ true) × (test 1 ≡ true) × (test 2 ≡ true) × (test 3 ≡ true)
    z = four (test 0) (test 1) (test 2) (test 3) (and_parts (has_vertex t p) _ h).1

    face : (k : ℕ) → HasVertex (facet_of t k) p → test k ≡ true → pos 0 <ℤ inward v t k s
    face k i e =
        ⊎_elim (λ x. absurd (not_both v t p k c.positive i (eqb-true (vertex_of t k) p x))) (λ x. above_true (inward v t k s) x)
        (or_cases (eqb (vertex_of t k) p) (is_positive (inward v t k s)) e)

    by : (k : ℕ) → HasVertex (facet_of t k) p → pos 0 <ℤ inward v t k s
    by zero i = face 0 i z.0
    by (suc zero) i = face 1 i z.1
    by (suc (suc zero)) i = face 2 i z.2
    by (suc (suc (suc k))) i = face 3 i z.3

pub towards_is : (v : Vertices) (p : ℕ) (s : RationalPoint) (t : Tetrahedron) → IsTowards v t p s → is_towards v p s t ≡ true
unfolding is_towards
towards_is v p s t h =
    and_from (has_vertex t p) _ (has h.has) (four_is (test 0) (test 1) (test 2) (test 3) (face 0) (face 1) (face 2) (face 3))
  where
    has : IsVertexOf t p → has_vertex t p ≡ true
    has h =
        any_is (eqb t.a p) (eqb t.b p) (eqb t.c p) (eqb t.d p)
        (⊎_elim (λ e. inl (eq-eqb t.a p (sym e)))
        (⊎_elim (λ e. inr (inl (eq-eqb t.b p (sym e))))
        (⊎_elim (λ e. inr (inr (inl (eq-eqb t.c p (sym e))))) (λ e. inr (inr (inr (eq-eqb t.d p (sym e))))))) h)

    test : ℕ → Bool
    test k = eqb (vertex_of t k) p || is_positive (inward v t k s)

    face : (k : ℕ) → test k ≡ true
    face k =
        ⊎_elim (λ (e : p ≡ vertex_of t k).
        or_left (eqb (vertex_of t k) p) (is_positive (inward v t k s)) (eq-eqb (vertex_of t k) p (sym e)))
        (λ (i : HasVertex (facet_of t k) p).
        or_right (eqb (vertex_of t k) p) (is_positive (inward v t k s)) (above_is (inward v t k s) (h.faces k i)))
        (opposite_or_on t k p h.has)

-- ---- behind is towards the scanner turned round
opposite_test : (z : ℤ) → int_lt z (pos 0) ≡ int_lt (pos 0) (neg_ℤ z)
opposite_test z = grind (arith, ints)

pub behind_is : (v : Vertices) (p : ℕ) (s : RationalPoint) (t : Tetrahedron) → is_behind v p s t ≡ is_towards v p (reversed s) t
unfolding is_behind is_towards
behind_is v p s t = grind (arith, opposite_test, side_reversed)
