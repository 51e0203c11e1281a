-- A positively written tetrahedron has a row: its four numbers, rising.
--
-- Its vertices are distinct, since an orientation with two equal points is zero. Bring the least number first, then the least
-- of the others second; both are steps. Then the last two rise or fall, and that is the row, straight or with its last two
-- exchanged.
use Rattle.std.proofs.Common.{ℕ, ◌<◌, ◌≤◌, ◌≡◌, ◌≢◌, ◌<ℤ◌, refl, ap, sym, subst, ◌∙◌, ◌⊎◌, inl, inr, ⊎_elim, arith, true, false}
use Rattle.std.proofs.Common.{ℤ, pos, List, [], ◌∷◌}
use Rattle.std.proofs.lemmas.Bool.{cases_lt}
use Rattle.std.proofs.lemmas.Int.{ints}
use Rattle.geo_sign.specs.Tetrahedron.{Tetrahedron}
use Rattle.geo_sign.specs.Vertices.{Vertices, orientation_of}
use Rattle.geo_sign.specs.Writings.{IsRewritten, IsVertexOf, spin, swap}
use Rattle.geo_sign.specs.RowLaws.{IsRowOf, IsPositive}
use Rattle.geo_sign.specs.Cells.{FormCell}
use Rattle.geo_sign.proofs.Exchanges.{flat_first, flat_second, flat_third, flat_a, flat_b, flat_c}
use Rattle.geo_sign.proofs.Rewritings.{orientation_at, same_orientation, same_vertex, rewritten_after, rewritten_back}

-- ---- the vertices are distinct
no_zero : (z : ℤ) → pos 0 <ℤ z → z ≡ pos 0 → ⊥
no_zero z h e = absurd (omega (arith, ints))

pub record AreDistinct (t : Tetrahedron) : Type 0 where
  pub b_a : t.b ≢ t.a
  pub c_a : t.c ≢ t.a
  pub c_b : t.c ≢ t.b
  pub d_a : t.d ≢ t.a
  pub d_b : t.d ≢ t.b
  pub d_c : t.d ≢ t.c

pub distinct : (v : Vertices) (t : Tetrahedron) → IsPositive v t → AreDistinct t
distinct v t h =
    record {
      b_a =
          λ e. no_zero (orientation_at v t) h
          (ap (λ x. orientation_of v t.a x t.c t.d) e ∙ flat_first (v.at t.a) (v.at t.c) (v.at t.d));
      c_a =
          λ e. no_zero (orientation_at v t) h
          (ap (λ x. orientation_of v t.a t.b x t.d) e ∙ flat_second (v.at t.a) (v.at t.b) (v.at t.d));
      c_b =
          λ e. no_zero (orientation_at v t) h
          (ap (λ x. orientation_of v t.a t.b x t.d) e ∙ flat_third (v.at t.a) (v.at t.b) (v.at t.d));
      d_a =
          λ e. no_zero (orientation_at v t) h
          (ap (λ x. orientation_of v t.a t.b t.c x) e ∙ flat_a (v.at t.a) (v.at t.b) (v.at t.c));
      d_b =
          λ e. no_zero (orientation_at v t) h
          (ap (λ x. orientation_of v t.a t.b t.c x) e ∙ flat_b (v.at t.a) (v.at t.b) (v.at t.c));
      d_c =
          λ e. no_zero (orientation_at v t) h
          (ap (λ x. orientation_of v t.a t.b t.c x) e ∙ flat_c (v.at t.a) (v.at t.b) (v.at t.c));
    }

pub same_positive : (v : Vertices) (t r : Tetrahedron) → IsRewritten t r → IsPositive v t → IsPositive v r
same_positive v t r e h = subst (λ z. pos 0 <ℤ z) (sym (same_orientation v t r e)) h

-- ---- a vertex brought first, and another second
abbrev pub Led : Tetrahedron → ℕ → Type 0
Led t u = (r : Tetrahedron) × IsRewritten t r × (r.a ≡ u)

pub first : (t : Tetrahedron) (u : ℕ) → IsVertexOf t u → Led t u
first t u (inl e) = (t, ([], refl), sym e)
first t u (inr (inl e)) = (swap t, (false ∷ [], refl), sym e)
first t u (inr (inr (inl e))) = (spin (spin t), (true ∷ true ∷ [], refl), sym e)
first t u (inr (inr (inr e))) = (spin (spin (swap t)), (true ∷ true ∷ false ∷ [], refl), sym e)

abbrev pub LedTwo : Tetrahedron → ℕ → Type 0
LedTwo t u = (r : Tetrahedron) × IsRewritten t r × (r.a ≡ t.a) × (r.b ≡ u)

pub second : (t : Tetrahedron) (u : ℕ) → u ≢ t.a → IsVertexOf t u → LedTwo t u
second t u n (inl e) = absurd (n e)
second t u n (inr (inl e)) = (t, ([], refl), refl, sym e)
second t u n (inr (inr (inl e))) = (spin (swap (spin (swap t))), (true ∷ false ∷ true ∷ false ∷ [], refl), refl, sym e)
second t u n (inr (inr (inr e))) = (spin (swap t), (true ∷ false ∷ [], refl), refl, sym e)

-- ---- the least of some numbers
record IsLesser (x y m : ℕ) : Type 0 where
  is : (m ≡ x) ⊎ (m ≡ y)
  first_above : m ≤ x
  second_above : m ≤ y

lesser : (x y : ℕ) → (m : ℕ) × IsLesser x y m
lesser x y =
    ⊎_elim (λ (l : x < y).
    let r : (m : ℕ) × IsLesser x y m =
    (x, record { is = inl refl; first_above = omega arith; second_above = omega (arith, l) }) in
    r)
    (λ (l : y ≤ x).
    let r : (m : ℕ) × IsLesser x y m = (y, record { is = inr refl; first_above = l; second_above = omega arith }) in
    r) (cases_lt x y)

least : (t : Tetrahedron) → (u : ℕ) × IsVertexOf t u × ((w : ℕ) → IsVertexOf t w → u ≤ w)
least t = (z.0, of z.1.is, above)
  where
    x : (m : ℕ) × IsLesser t.a t.b m
    x = lesser t.a t.b

    y : (m : ℕ) × IsLesser t.c t.d m
    y = lesser t.c t.d

    z : (m : ℕ) × IsLesser x.0 y.0 m
    z = lesser x.0 y.0

    of : (z.0 ≡ x.0) ⊎ (z.0 ≡ y.0) → IsVertexOf t z.0
    of (inl e) = ⊎_elim (λ f. inl (e ∙ f)) (λ f. inr (inl (e ∙ f))) x.1.is
    of (inr e) = ⊎_elim (λ f. inr (inr (inl (e ∙ f)))) (λ f. inr (inr (inr (e ∙ f)))) y.1.is

    above : (w : ℕ) → IsVertexOf t w → z.0 ≤ w
    above w (inl e) = let h = z.1.first_above in let k = x.1.first_above in omega (arith, e, h, k)
    above w (inr (inl e)) = let h = z.1.first_above in let k = x.1.second_above in omega (arith, e, h, k)
    above w (inr (inr (inl e))) = let h = z.1.second_above in let k = y.1.first_above in omega (arith, e, h, k)
    above w (inr (inr (inr e))) = let h = z.1.second_above in let k = y.1.second_above in omega (arith, e, h, k)

-- a vertex but the first
abbrev IsRest : Tetrahedron → ℕ → Type 0
IsRest t u = (u ≡ t.b) ⊎ ((u ≡ t.c) ⊎ (u ≡ t.d))

least_rest : (t : Tetrahedron) → (u : ℕ) × IsRest t u × ((w : ℕ) → IsRest t w → u ≤ w)
least_rest t = (z.0, of z.1.is, above)
  where
    y : (m : ℕ) × IsLesser t.c t.d m
    y = lesser t.c t.d

    z : (m : ℕ) × IsLesser t.b y.0 m
    z = lesser t.b y.0

    of : (z.0 ≡ t.b) ⊎ (z.0 ≡ y.0) → IsRest t z.0
    of (inl e) = inl e
    of (inr e) = ⊎_elim (λ f. inr (inl (e ∙ f))) (λ f. inr (inr (e ∙ f))) y.1.is

    above : (w : ℕ) → IsRest t w → z.0 ≤ w
    above w (inl e) = let h = z.1.first_above in omega (arith, e, h)
    above w (inr (inl e)) = let h = z.1.second_above in let k = y.1.first_above in omega (arith, e, h, k)
    above w (inr (inr e)) = let h = z.1.second_above in let k = y.1.second_above in omega (arith, e, h, k)

-- ---- a writing that begins with the two least numbers
record IsBegun (t r : Tetrahedron) : Type 0 where
  same : IsRewritten t r
  a_below : r.a < r.b
  c_above : r.b < r.c
  d_above : r.b < r.d

begun : (v : Vertices) (t : Tetrahedron) → IsPositive v t → (r : Tetrahedron) × IsBegun t r
begun v t k = (
  y.0,
  record {
    same = same;
    a_below = a_below;
    c_above = rest_above y.0.c (inr (inr (inl refl))) n.c_a n.c_b;
    d_above = rest_above y.0.d (inr (inr (inr refl))) n.d_a n.d_b;
  },
)
  where
    u : (u : ℕ) × IsVertexOf t u × ((w : ℕ) → IsVertexOf t w → u ≤ w)
    u = least t

    x : Led t u.0
    x = first t u.0 u.1

    m : AreDistinct x.0
    m = distinct v x.0 (same_positive v t x.0 x.1 k)

    w : (w : ℕ) × IsRest x.0 w × ((z : ℕ) → IsRest x.0 z → w ≤ z)
    w = least_rest x.0

    not_first : IsRest x.0 w.0 → w.0 ≢ x.0.a
    not_first h e = ⊎_elim (λ f. m.b_a (sym f ∙ e)) (⊎_elim (λ f. m.c_a (sym f ∙ e)) (λ f. m.d_a (sym f ∙ e))) h

    y : LedTwo x.0 w.0
    y = second x.0 w.0 (not_first w.1) (inr w.1)

    same : IsRewritten t y.0
    same = rewritten_after t x.0 y.0 x.1 y.1

    n : AreDistinct y.0
    n = distinct v y.0 (same_positive v t y.0 same k)

    a_below : y.0.a < y.0.b
    a_below =
        let l : u.0 ≤ y.0.b = u.2 y.0.b (same_vertex y.0.b y.0 t (rewritten_back t y.0 same) (inr (inl refl))) in
        let e : y.0.a ≡ u.0 = y.2 ∙ x.2 in
        let d : y.0.b ≢ y.0.a = n.b_a in
        omega (arith, l, e, d)

    rest_above : (z : ℕ) → IsVertexOf y.0 z → z ≢ y.0.a → z ≢ y.0.b → y.0.b < z
    rest_above z o a b =
        let l : w.0 ≤ z =
        ⊎_elim (λ (e : z ≡ x.0.a). absurd (a (e ∙ sym y.2))) (λ (h : IsRest x.0 z). w.2 z h)
        (same_vertex z y.0 x.0 (rewritten_back x.0 y.0 y.1) o) in
        let e : y.0.b ≡ w.0 = y.3 in
        omega (arith, l, e, b)

-- ---- a row is there
pub row_there : (v : Vertices) (t : Tetrahedron) → IsPositive v t → (row : List ℕ) × IsRowOf t row
row_there v t k =
    let z = begun v t k in
    let r : Tetrahedron = z.0 in
    let b : IsBegun t r = z.1 in
    let n : AreDistinct r = distinct v r (same_positive v t r b.same k) in
    let d : r.d ≢ r.c = n.d_c in
    ⊎_elim
    (λ (l : r.c < r.d).
    let x : (row : List ℕ) × IsRowOf t row = (r.a ∷ r.b ∷ r.c ∷ r.d ∷ [], (b.a_below, b.c_above, l, inl b.same)) in
    x)
    (λ (l : r.d ≤ r.c).
    let x : (row : List ℕ) × IsRowOf t row =
    (r.a ∷ r.b ∷ r.d ∷ r.c ∷ [], (b.a_below, b.d_above, omega (arith, l, d), inr b.same)) in
    x)
    (cases_lt r.c r.d)

-- the last vertex of a cell is one of the vertices
pub last_below : (v : Vertices) (p q r s : ℕ) → FormCell v p q r s → s < v.count
last_below v p q r s h = ⊎_elim (λ k. k.has_d.0) (λ k. k.has_c.0) h
