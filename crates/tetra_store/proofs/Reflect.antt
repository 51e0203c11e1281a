-- Tests of small tables that are computed, and what they say.
use Rattle.std.proofs.Common.{ℕ, ◌≡◌, ◌<◌, Bool, true, false, not, cond, ◌&&◌, ◌||◌, ◌==◌, bit_and, ℤ, pos}
use Rattle.std.proofs.Common.{neg_ℤ, refl, sym, ap, ◌∙◌, inl, inr, subst, arith}
use Rattle.std.proofs.lemmas.Bool.{eqb-true, eq-eqb, false≢true, or_left, or_right, and_from, or_cases, and_parts}
use Rattle.std.proofs.lemmas.Int.{ints}
use Rattle.geo_sign.specs.Point.{Point, corner_point}
use Rattle.geo_sign.specs.declared.point.TheConstants.{BOX_LIMIT, CORNERS}
use Rattle.geo_sign.specs.Tetrahedron as geo
use Rattle.geo_sign.specs.Tetrahedron.{facet, IsRotated, IsTurned}
use Rattle.geo_sign.specs.Vertices.{Vertices, IsWall}

-- not a, or b
pub implied : (a b : Bool) → (not a || b) ≡ true → a ≡ true → b ≡ true
implied true b h k = h
implied false b h k = absurd (false≢true k)

abbrev pub same : Bool → Bool → Bool
same true b = b
same false b = not b

pub same_is : (a b : Bool) → same a b ≡ true → a ≡ b
same_is true b h = sym h
same_is false true h = absurd (false≢true h)
same_is false false h = refl

-- ---- facets

abbrev pub is_facet : geo.DirectedFacet → (a b c : ℕ) → Bool
is_facet g a b c = (g.a == a) && ((g.b == b) && (g.c == c))

abbrev pub rotated_test : geo.DirectedFacet → geo.DirectedFacet → Bool
rotated_test f g = is_facet g f.a f.b f.c || (is_facet g f.b f.c f.a || is_facet g f.c f.a f.b)

abbrev pub turned_test : geo.DirectedFacet → geo.DirectedFacet → Bool
turned_test f g = is_facet g f.a f.c f.b || (is_facet g f.c f.b f.a || is_facet g f.b f.a f.c)

facet_is : (g : geo.DirectedFacet) (a b c : ℕ) → is_facet g a b c ≡ true → g ≡ facet a b c
facet_is g a b c h = grind (arith, eqb-true)

facet_yes : (a b c : ℕ) → is_facet (facet a b c) a b c ≡ true
facet_yes a b c =
    and_from (a == a) ((b == b) && (c == c)) (eq-eqb a a refl) (and_from (b == b) (c == c) (eq-eqb b b refl) (eq-eqb c c refl))

pub turned_of : (f g : geo.DirectedFacet) → turned_test f g ≡ true → IsTurned f g
turned_of f g h = grind (arith, or_cases, facet_is)

pub rotated_yes : (f g : geo.DirectedFacet) → IsRotated f g → rotated_test f g ≡ true
rotated_yes f g (inl e) = or_left (is_facet g f.a f.b f.c) (is_facet g f.b f.c f.a || is_facet g f.c f.a f.b)
    (subst (λ (t : geo.DirectedFacet). is_facet t f.a f.b f.c ≡ true) (sym e) (facet_yes f.a f.b f.c))
rotated_yes f g (inr (inl e)) = grind (arith, or_right, or_left, facet_yes)
rotated_yes f g (inr (inr e)) = grind (arith, or_right, facet_yes)

-- ---- walls

-- the coordinate of a corner by its bit
abbrev pub low : (bit k : ℕ) → Bool
low bit k = bit_and k bit == 0

abbrev pub side_of : Bool → ℤ
side_of b = cond b (neg_ℤ (pos BOX_LIMIT)) (pos BOX_LIMIT)

pub side_same : (a b : Bool) → side_of a ≡ side_of b → same a b ≡ true
side_same true true h = refl
side_same true false h = absurd (omega (arith, ints))
side_same false true h = absurd (omega (arith, ints))
side_same false false h = refl

abbrev pub agree_test : (bit : ℕ) → geo.DirectedFacet → Bool
agree_test bit f = same (low bit f.a) (low bit f.b) && same (low bit f.a) (low bit f.c)

abbrev pub wall_test : geo.DirectedFacet → Bool
wall_test f = agree_test 1 f || (agree_test 2 f || agree_test 4 f)

abbrev AreCorners : Vertices → Type 0
AreCorners v = (k : ℕ) → k < CORNERS → v.at k ≡ corner_point k

agree_yes : (v : Vertices) → AreCorners v → (bit : ℕ) (f : geo.DirectedFacet) → f.a < 8 → f.b < 8 → f.c < 8 → (x : Point → ℤ)
    → ((k : ℕ) → x (corner_point k) ≡ side_of (low bit k))
    → agree_test bit f ≡ true → (x (v.at f.a) ≡ x (v.at f.b)) × (x (v.at f.a) ≡ x (v.at f.c))
agree_yes v h bit f a b c x is t =
    let both = and_parts (same (low bit f.a) (low bit f.b)) (same (low bit f.a) (low bit f.c)) t in
    let p = same_is (low bit f.a) (low bit f.b) both.0 in
    let q = same_is (low bit f.a) (low bit f.c) both.1 in
    let at_a : x (v.at f.a) ≡ side_of (low bit f.a) = ap x (h f.a a) ∙ is f.a in
    let at_b : x (v.at f.b) ≡ side_of (low bit f.b) = ap x (h f.b b) ∙ is f.b in
    let at_c : x (v.at f.c) ≡ side_of (low bit f.c) = ap x (h f.c c) ∙ is f.c in
    (at_a ∙ (ap side_of p ∙ sym at_b), at_a ∙ (ap side_of q ∙ sym at_c))

agree_no : (v : Vertices) → AreCorners v → (bit : ℕ) (f : geo.DirectedFacet) → f.a < 8 → f.b < 8 → f.c < 8 → (x : Point → ℤ)
    → ((k : ℕ) → x (corner_point k) ≡ side_of (low bit k))
    → (x (v.at f.a) ≡ x (v.at f.b)) × (x (v.at f.a) ≡ x (v.at f.c)) → agree_test bit f ≡ true
agree_no v h bit f a b c x is t = grind (arith, ints, and_from, side_same)

pub wall_of : (v : Vertices) → AreCorners v → (f : geo.DirectedFacet) → f.a < 8 → f.b < 8 → f.c < 8 → wall_test f ≡ true
    → IsWall v f
wall_of v h f a b c t = elim (or_cases (agree_test 1 f) (agree_test 2 f || agree_test 4 f) t) [
  | inl x ↦
      record { first = a; second = b; third = c; agree = inl (agree_yes v h 1 f a b c (λ (p : Point). p.x) (λ k. refl) x) }
  | inr r ↦ elim (or_cases (agree_test 2 f) (agree_test 4 f) r) [
    | inl x ↦ record {
      first = a;
      second = b;
      third = c;
      agree = inr (inl (agree_yes v h 2 f a b c (λ (p : Point). p.y) (λ k. refl) x));
    }
    | inr x ↦ record {
      first = a;
      second = b;
      third = c;
      agree = inr (inr (agree_yes v h 4 f a b c (λ (p : Point). p.z) (λ k. refl) x));
    }
  ]
]

pub wall_yes : (v : Vertices) → AreCorners v → (f : geo.DirectedFacet) → IsWall v f → wall_test f ≡ true
wall_yes v h f w = elim w.agree [
  | inl e ↦
      or_left (agree_test 1 f) (agree_test 2 f || agree_test 4 f)
      (agree_no v h 1 f w.first w.second w.third (λ (p : Point). p.x) (λ k. refl) e)
  | inr r ↦ or_right (agree_test 1 f) (agree_test 2 f || agree_test 4 f) (elim r [
    | inl e ↦
        or_left (agree_test 2 f) (agree_test 4 f) (agree_no v h 2 f w.first w.second w.third (λ (p : Point). p.y) (λ k. refl) e)
    | inr e ↦
        or_right (agree_test 2 f) (agree_test 4 f)
        (agree_no v h 4 f w.first w.second w.third (λ (p : Point). p.z) (λ k. refl) e)
  ])
]
