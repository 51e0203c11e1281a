-- A tetrahedron written anew: what both steps keep, all rewritings keep.
--
-- A step moves the four facets and rotates some of them. So what is said of all four facets is said of them in another order,
-- and a side is that of a rotated facet. No premise on the vertices is needed.
use Rattle.std.proofs.Common.{ℕ, zero, suc, ◌≡◌, ◌<◌, ◌<ℤ◌, ◌≤ℤ◌, refl, ap, ap₂, sym, subst, ◌∙◌, inl, inr, ⊎_elim, arith, Bool}
use Rattle.std.proofs.Common.{true, false, ◌&&◌, ◌||◌, ◌==◌, ℤ, pos, List, [], ◌∷◌, ◌++◌}
use Rattle.std.proofs.Math.Bool.{and_assoc, and_comm, or_assoc, or_comm}
use Rattle.geo_sign.specs.Rational.{RationalPoint}
use Rattle.geo_sign.specs.Tetrahedron.{Tetrahedron, DirectedFacet, facet, facet_of, vertex_of, IsRotated}
use Rattle.geo_sign.specs.Vertices.{Vertices, orientation_of, power_of}
use Rattle.geo_sign.specs.Cells.{IsCell}
use Rattle.geo_sign.specs.Sights.{side_of, is_positive, is_negative, has_vertex, all_facets, all_facets_at, is_behind}
use Rattle.geo_sign.specs.Sights.{is_cell_of}
use Rattle.geo_sign.specs.Places.{IsLyingIn, IsStrictlyIn}
use Rattle.geo_sign.specs.Writings.{IsRewritten, IsVertexOf, after_steps, spin, swap}
use Rattle.geo_sign.specs.FacetLaws.{FacetsAreRotated}
use Rattle.geo_sign.proofs.Exchanges.{spin_orientation, swap_orientation, spin_power, swap_power}
use Rattle.geo_sign.proofs.Rotations.{rotated_after, side_rotated}

-- ---- what both steps keep
pub carry : (P : Tetrahedron → Type 0) → ((t : Tetrahedron) → P t → P (spin t)) → ((t : Tetrahedron) → P t → P (swap t))
    → (steps : List Bool) (t : Tetrahedron) → P t → P (after_steps steps t)
carry P f g [] t h = h
carry P f g (true ∷ steps) t h = f (after_steps steps t) (carry P f g steps t h)
carry P f g (false ∷ steps) t h = g (after_steps steps t) (carry P f g steps t h)

pub carry_rewritten : (P : Tetrahedron → Type 0) → ((t : Tetrahedron) → P t → P (spin t))
    → ((t : Tetrahedron) → P t → P (swap t)) → (t r : Tetrahedron) → IsRewritten t r → P t → P r
carry_rewritten P f g t r e h = subst P e.1 (carry P f g e.0 t h)

-- a value that no step changes
pub carry_value : {A : Type 0} (value : Tetrahedron → A) → ((t : Tetrahedron) → value (spin t) ≡ value t)
    → ((t : Tetrahedron) → value (swap t) ≡ value t) → (t r : Tetrahedron) → IsRewritten t r → value r ≡ value t
carry_value value f g t r e = carry_rewritten (λ x. value x ≡ value t) (λ x h. f x ∙ h) (λ x h. g x ∙ h) t r e refl

-- ---- an equivalence
pub moved_append : (u w : List Bool) (t : Tetrahedron) → after_steps (u ++ w) t ≡ after_steps u (after_steps w t)
moved_append [] w t = refl
moved_append (true ∷ u) w t = ap spin (moved_append u w t)
moved_append (false ∷ u) w t = ap swap (moved_append u w t)

pub rewritten_after : (t r s : Tetrahedron) → IsRewritten t r → IsRewritten r s → IsRewritten t s
rewritten_after t r s e f = (f.0 ++ e.0, moved_append f.0 e.0 t ∙ ap (after_steps f.0) e.1 ∙ f.1)

-- three spins are none, and two swaps
pub rewritten_back : (t r : Tetrahedron) → IsRewritten t r → IsRewritten r t
rewritten_back t r e =
    carry_rewritten (λ x. IsRewritten x t)
    (λ x h. (h.0 ++ (true ∷ true ∷ []), moved_append h.0 (true ∷ true ∷ []) (spin x) ∙ h.1))
    (λ x h. (h.0 ++ (false ∷ []), moved_append h.0 (false ∷ []) (swap x) ∙ h.1))
    t r e ([], refl)

-- ---- orientation, power, cells and vertices
abbrev pub orientation_at : Vertices → Tetrahedron → ℤ
orientation_at v t = orientation_of v t.a t.b t.c t.d

abbrev pub power_at : Vertices → Tetrahedron → ℕ → ℤ
power_at v t p = power_of v t.a t.b t.c t.d p

abbrev pub IsCellOf : Vertices → Tetrahedron → Type 0
IsCellOf v t = IsCell v t.a t.b t.c t.d

pub same_orientation : (v : Vertices) (t r : Tetrahedron) → IsRewritten t r → orientation_at v r ≡ orientation_at v t
same_orientation v =
    carry_value (orientation_at v) (λ t. spin_orientation (v.at t.a) (v.at t.b) (v.at t.c) (v.at t.d))
    (λ t. swap_orientation (v.at t.a) (v.at t.b) (v.at t.c) (v.at t.d))

pub spun_power : (v : Vertices) (p : ℕ) (t : Tetrahedron) → power_at v (spin t) p ≡ power_at v t p
spun_power v p t =
    spin_power (v.at t.a) (v.at t.b) (v.at t.c) (v.at t.d) (v.at p) (v.high t.a) (v.high t.b) (v.high t.c)
    (v.high t.d) (v.high p)

pub swapped_power : (v : Vertices) (p : ℕ) (t : Tetrahedron) → power_at v (swap t) p ≡ power_at v t p
swapped_power v p t =
    swap_power (v.at t.a) (v.at t.b) (v.at t.c) (v.at t.d) (v.at p) (v.high t.a) (v.high t.b) (v.high t.c)
    (v.high t.d) (v.high p)

pub same_power : (v : Vertices) (p : ℕ) (t r : Tetrahedron) → IsRewritten t r → power_at v r p ≡ power_at v t p
same_power v p = carry_value (λ t. power_at v t p) (spun_power v p) (swapped_power v p)

pub spin_cell : (v : Vertices) (t : Tetrahedron) → IsCellOf v t → IsCellOf v (spin t)
spin_cell v t k =
    record {
      has_a = k.has_b;
      has_b = k.has_c;
      has_c = k.has_a;
      has_d = k.has_d;
      positive = subst (λ z. pos 0 <ℤ z) (sym (spin_orientation (v.at t.a) (v.at t.b) (v.at t.c) (v.at t.d))) k.positive;
      clear = λ u h. subst (λ z. pos 0 ≤ℤ z) (sym (spun_power v u t)) (k.clear u h);
    }

pub swap_cell : (v : Vertices) (t : Tetrahedron) → IsCellOf v t → IsCellOf v (swap t)
swap_cell v t k =
    record {
      has_a = k.has_b;
      has_b = k.has_a;
      has_c = k.has_d;
      has_d = k.has_c;
      positive = subst (λ z. pos 0 <ℤ z) (sym (swap_orientation (v.at t.a) (v.at t.b) (v.at t.c) (v.at t.d))) k.positive;
      clear = λ u h. subst (λ z. pos 0 ≤ℤ z) (sym (swapped_power v u t)) (k.clear u h);
    }

pub same_cell : (v : Vertices) (t r : Tetrahedron) → IsRewritten t r → IsCellOf v t → IsCellOf v r
same_cell v t r e = carry_rewritten (IsCellOf v) (spin_cell v) (swap_cell v) t r e

pub same_vertex : (u : ℕ) (t r : Tetrahedron) → IsRewritten t r → IsVertexOf t u → IsVertexOf r u
same_vertex u t r e =
    carry_rewritten (λ x. IsVertexOf x u)
    (λ x. ⊎_elim (λ h. inr (inr (inl h))) (⊎_elim (λ h. inl h) (⊎_elim (λ h. inr (inl h)) (λ h. inr (inr (inr h))))))
    (λ x. ⊎_elim (λ h. inr (inl h)) (⊎_elim (λ h. inl h) (⊎_elim (λ h. inr (inr (inr h))) (λ h. inr (inr (inl h)))))) t r e

-- ---- facets
-- each facet of the one is some facet of the other, rotated
abbrev HasFacetsOf : Tetrahedron → Tetrahedron → Type 0
HasFacetsOf t r = (k : ℕ) → (j : ℕ) × (j < 4) × IsRotated (facet_of t j) (facet_of r k)

spin_facets : (t : Tetrahedron) → HasFacetsOf t (spin t)
spin_facets t zero = (1, omega arith, inr (inl refl))
spin_facets t (suc zero) = (2, omega arith, inr (inr refl))
spin_facets t (suc (suc zero)) = (0, omega arith, inl refl)
spin_facets t (suc (suc (suc k))) = (3, omega arith, inr (inl refl))

swap_facets : (t : Tetrahedron) → HasFacetsOf t (swap t)
swap_facets t zero = (1, omega arith, inl refl)
swap_facets t (suc zero) = (0, omega arith, inl refl)
swap_facets t (suc (suc zero)) = (3, omega arith, inr (inl refl))
swap_facets t (suc (suc (suc k))) = (2, omega arith, inr (inr refl))

facets_after : (t r s : Tetrahedron) → HasFacetsOf r s → HasFacetsOf t r → HasFacetsOf t s
facets_after t r s g f k =
    let j = g k in
    let i = f j.0 in
    (i.0, i.1, rotated_after (facet_of t i.0) (facet_of r j.0) (facet_of s k) i.2 j.2)

facets_itself : (t : Tetrahedron) → HasFacetsOf t t
facets_itself t zero = (0, omega arith, inl refl)
facets_itself t (suc zero) = (1, omega arith, inl refl)
facets_itself t (suc (suc zero)) = (2, omega arith, inl refl)
facets_itself t (suc (suc (suc k))) = (3, omega arith, inl refl)

pub same_facets : FacetsAreRotated
same_facets t r e =
    carry_rewritten (HasFacetsOf t) (λ x. facets_after t x (spin x) (spin_facets x))
    (λ x. facets_after t x (swap x) (swap_facets x)) t r e (facets_itself t)

-- ---- places
pub same_lying : (v : Vertices) (q : RationalPoint) (t r : Tetrahedron) → IsRewritten t r → IsLyingIn v t q → IsLyingIn v r q
same_lying v q t r e h =
    record {
      at =
          λ k. (let f = same_facets t r e k in
          subst (λ z. pos 0 ≤ℤ z) (sym (side_rotated v (facet_of t f.0) (facet_of r k) q f.2)) (h.at f.0));
    }

pub same_strictly : (v : Vertices) (q : RationalPoint) (t r : Tetrahedron) → IsRewritten t r → IsStrictlyIn v t q
    → IsStrictlyIn v r q
same_strictly v q t r e h =
    record {
      at =
          λ k. (let f = same_facets t r e k in
          subst (λ z. pos 0 <ℤ z) (sym (side_rotated v (facet_of t f.0) (facet_of r k) q f.2)) (h.at f.0));
    }

-- ---- tests of the four facets
and_spun : (a b c d : Bool) → (b && c && a && d) ≡ (a && b && c && d)
and_spun a b c d = ap (λ (x : Bool). x && d) (and_comm (b && c) a ∙ sym (and_assoc a b c))

and_swapped : (a b c d : Bool) → (b && a && d && c) ≡ (a && b && c && d)
and_swapped a b c d =
    and_assoc (b && a) d c ∙ ap₂ (λ (x y : Bool). x && y) (and_comm b a) (and_comm d c) ∙ sym (and_assoc (a && b) c d)

pub or_spun : (a b c d : Bool) → (b || c || a || d) ≡ (a || b || c || d)
or_spun a b c d = ap (λ (x : Bool). x || d) (or_comm (b || c) a ∙ sym (or_assoc a b c))

pub or_swapped : (a b c d : Bool) → (b || a || d || c) ≡ (a || b || c || d)
or_swapped a b c d =
    or_assoc (b || a) d c ∙ ap₂ (λ (x y : Bool). x || y) (or_comm b a) (or_comm d c) ∙ sym (or_assoc (a || b) c d)

pub same_has_vertex : (p : ℕ) (t r : Tetrahedron) → IsRewritten t r → has_vertex r p ≡ has_vertex t p
same_has_vertex p =
    carry_value (λ t. has_vertex t p) (λ t. or_spun (t.a == p) (t.b == p) (t.c == p) (t.d == p))
    (λ t. or_swapped (t.a == p) (t.b == p) (t.c == p) (t.d == p))

-- a test that says the same of a rotated facet
abbrev pub IsBlind : (DirectedFacet → Bool) → Type 0
IsBlind test = (f g : DirectedFacet) → IsRotated f g → test g ≡ test f

pub same_all_facets : (test : DirectedFacet → Bool) → IsBlind test → (t r : Tetrahedron) → IsRewritten t r
    → all_facets r test ≡ all_facets t test
same_all_facets test same = carry_value (λ t. all_facets t test) spun swapped
  where
    side : (t : Tetrahedron) (k : ℕ) → Bool
    side t k = test (facet_of t k)

    spun : (t : Tetrahedron) → all_facets (spin t) test ≡ all_facets t test
    spun t =
        ap₂ (λ x y. x && y && side t 0 && test (facet t.b t.c t.a)) (same (facet_of t 1) (facet t.c t.d t.a) (inr (inl refl)))
        (same (facet_of t 2) (facet t.b t.a t.d) (inr (inr refl)))
        ∙ ap (λ x. side t 1 && side t 2 && side t 0 && x) (same (facet_of t 3) (facet t.b t.c t.a) (inr (inl refl)))
        ∙ and_spun (side t 0) (side t 1) (side t 2) (side t 3)

    swapped : (t : Tetrahedron) → all_facets (swap t) test ≡ all_facets t test
    swapped t =
        ap₂ (λ x y. side t 1 && side t 0 && x && y) (same (facet_of t 3) (facet t.b t.c t.a) (inr (inl refl)))
        (same (facet_of t 2) (facet t.b t.a t.d) (inr (inr refl)))
        ∙ and_swapped (side t 0) (side t 1) (side t 2) (side t 3)

-- the test of a facet, passed where the vertex opposite is p
abbrev passes : ℕ → (DirectedFacet → Bool) → ℕ → DirectedFacet → Bool
passes p test u f = (u == p) || test f

pub same_all_facets_at : (p : ℕ) (test : DirectedFacet → Bool) → IsBlind test → (t r : Tetrahedron) → IsRewritten t r
    → all_facets_at p r test ≡ all_facets_at p t test
same_all_facets_at p test same = carry_value (λ t. all_facets_at p t test) spun swapped
  where
    side : (t : Tetrahedron) (k : ℕ) → Bool
    side t k = passes p test (vertex_of t k) (facet_of t k)

    blind : (u : ℕ) (f g : DirectedFacet) → IsRotated f g → passes p test u g ≡ passes p test u f
    blind u f g h = ap (λ x. (u == p) || x) (same f g h)

    spun : (t : Tetrahedron) → all_facets_at p (spin t) test ≡ all_facets_at p t test
    spun t =
        ap₂ (λ x y. x && y && side t 0 && passes p test t.d (facet t.b t.c t.a))
        (blind t.b (facet_of t 1) (facet t.c t.d t.a) (inr (inl refl)))
        (blind t.c (facet_of t 2) (facet t.b t.a t.d) (inr (inr refl)))
        ∙ ap (λ x. side t 1 && side t 2 && side t 0 && x) (blind t.d (facet_of t 3) (facet t.b t.c t.a) (inr (inl refl)))
        ∙ and_spun (side t 0) (side t 1) (side t 2) (side t 3)

    swapped : (t : Tetrahedron) → all_facets_at p (swap t) test ≡ all_facets_at p t test
    swapped t =
        ap₂ (λ x y. side t 1 && side t 0 && x && y) (blind t.d (facet_of t 3) (facet t.b t.c t.a) (inr (inl refl)))
        (blind t.c (facet_of t 2) (facet t.b t.a t.d) (inr (inr refl)))
        ∙ and_swapped (side t 0) (side t 1) (side t 2) (side t 3)

-- ---- the tests of sights
blind_ahead : (v : Vertices) (s : RationalPoint) → IsBlind (λ f. is_positive (side_of v f s))
blind_ahead v s f g h = ap (λ z. is_positive z) (side_rotated v f g s h)

blind_back : (v : Vertices) (s : RationalPoint) → IsBlind (λ f. is_negative (side_of v f s))
blind_back v s f g h = ap (λ z. is_negative z) (side_rotated v f g s h)

pub same_behind : (v : Vertices) (p : ℕ) (s : RationalPoint) (t r : Tetrahedron) → IsRewritten t r
    → is_behind v p s r ≡ is_behind v p s t
unfolding is_behind
same_behind v p s t r e =
    ap₂ (λ x y. x && y) (same_has_vertex p t r e)
    (same_all_facets_at p (λ f. is_negative (side_of v f s)) (blind_back v s) t r e)

pub same_cell_of : (v : Vertices) (s : RationalPoint) (t r : Tetrahedron) → IsRewritten t r
    → is_cell_of v s r ≡ is_cell_of v s t
unfolding is_cell_of
same_cell_of v s t r e = same_all_facets (λ f. is_positive (side_of v f s)) (blind_ahead v s) t r e
