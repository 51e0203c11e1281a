-- The next cell over a facet, as in gift wrapping. Of the vertices before the turned facet a c b take the one e at which the
-- ratio of its power at the cell a b c d to its side of a c b is least. By the three terms no vertex has a negative power at a
-- c b e: its power there is a positive multiple of the difference of two such ratios. So a facet of a cell is an outer one or
-- has a cell across it; and it has at most one, since each of two apexes would have a power of zero or less at the other.
-- Stands on: Best, Writing and the three terms of Identities.
use Rattle.std.proofs.Common.{ℕ, zero, suc, ◌≡◌, ◌≢◌, ◌<◌, ◌≤◌, ap, ap₂, sym, ◌∙◌, ◌⊎◌, inl, inr, ⊎_elim, arith, Bool}
use Rattle.std.proofs.Common.{true, false, ◌&&◌, true≢false, ℤ, pos, neg_ℤ, ◌-ℤ◌, ◌*ℤ◌, ◌≤ℤ◌, ◌<ℤ◌, int_lt, List, [], ◌∷◌}
use Rattle.std.proofs.lemmas.Int.{ints, by_lt_z}
use Rattle.std.proofs.lemmas.Bool.{cases_lt, and_parts}
use lib.IntN.{*ℤ_comm}
use Rattle.geo_sign.specs.Cells.{IsCell}
use Rattle.geo_sign.specs.Vertices.{Has, orientation_of, power_of, Vertices}
use Rattle.cell_laws.specs.Lists.{IsIn}
use Rattle.geo_sign.proofs.Exchanges.{exchanged_power, flat_a, flat_b, flat_c, turned_orientation}
use Rattle.geo_sign.proofs.SignTests.{above_true, above_is}
use Rattle.geo_sign.proofs.RingLaws.{*ℤ-neg}
use Rattle.cell_laws.proofs.Best.{best, Found, IsBest}
use Rattle.cell_laws.proofs.Identities.{three_terms}
use Rattle.cell_laws.proofs.Order.{mul_below, mul_not_above, mul_not_negative}
use Rattle.cell_laws.proofs.Regions.{IsGeneric, IsOuter}

-- ---- numbers below n
abbrev pub below : ℕ → List ℕ
below zero = []
below (suc n) = n ∷ below n

pub below_has : (n i : ℕ) → i < n → IsIn (below n) i
below_has zero i h = absurd (omega arith)
below_has (suc n) i h =
    ⊎_elim (λ (l : i < n). inr (below_has n i l)) (λ (l : n ≤ i). inl (let e : n ≡ i = omega arith in e)) (cases_lt i n)

pub below_gives : (n i : ℕ) → IsIn (below n) i → i < n
below_gives zero i h = absurd h
below_gives (suc n) i (inl e) = omega arith
below_gives (suc n) i (inr h) = let l : i < n = below_gives n i h in omega arith

-- ---- the test of a sign
pub above_false : (z : ℤ) → int_lt (pos 0) z ≡ false → z ≤ℤ pos 0
above_false z h = grind (arith, ints)

pub and_false : (a b : Bool) → (a && b) ≡ false → a ≡ true → b ≡ false
and_false true b h e = h
and_false false b h e = absurd (true≢false (sym e))

pub quotient : (a b : ℤ) → pos 0 <ℤ a → pos 0 ≤ℤ (a *ℤ b) → pos 0 ≤ℤ b
quotient a b h k =
    by_lt_z b (pos 0) (λ l. let m : (a *ℤ b) <ℤ pos 0 = mul_below a b h l in absurd (omega (arith, ints))) (λ l. l)

-- what makes a rational whose least one gives a cell over a b c
pub record Weight (v : Vertices) (a b c : ℕ) : Type 0 where
  pub base : ℤ
  pub weight : ℕ → ℤ
  pub base_positive : pos 0 <ℤ base
  pub not_negative : (u : ℕ) → Has v u → pos 0 ≤ℤ weight u
  pub is : (d u : ℕ)
      → base *ℤ power_of v a b c d u ≡ orientation_of v a b c d *ℤ weight u -ℤ weight d *ℤ orientation_of v a b c u

abbrev is_before : Vertices → (a b c u : ℕ) → Bool
is_before v a b c u = v.is_in u && int_lt (pos 0) (orientation_of v a b c u)

-- all vertices are behind a b c or in its plane, or there is a cell over it
pub wrap :
    (v : Vertices) (a b c : ℕ) → Has v a → Has v b → Has v c → Weight v a b c →
    ((u : ℕ) → Has v u → orientation_of v a b c u ≤ℤ pos 0) ⊎ ((d : ℕ) × IsCell v a b c d)
wrap v a b c ha hb hc w =
    pick (best (is_before v a b c) w.weight (orientation_of v a b c) (below v.count)
    (λ u i g. above_true (orientation_of v a b c u) (and_parts (v.is_in u) _ g).1))
  where
    clear :
        (d : ℕ) → Has v d → IsBest (is_before v a b c) w.weight (orientation_of v a b c) (below v.count) d →
        pos 0 <ℤ orientation_of v a b c d → (u : ℕ) → Has v u → pos 0 ≤ℤ power_of v a b c d u
    clear d hd k p u h =
        quotient w.base (power_of v a b c d u) w.base_positive
        (by_lt_z (pos 0) (orientation_of v a b c u)
        (λ l.
        let e = w.is d u in
        let m : (w.weight d *ℤ orientation_of v a b c u) ≤ℤ (w.weight u *ℤ orientation_of v a b c d) =
        k.least u (below_has v.count u h.0) (ap₂ (λ x y. x && y) h.1 (above_is (orientation_of v a b c u) l)) in
        let f = *ℤ_comm (w.weight u) (orientation_of v a b c d) in
        omega (arith, ints, e, m, f))
        (λ l.
        let e = w.is d u in
        let m = mul_not_above (w.weight d) (orientation_of v a b c u) (w.not_negative d hd) l in
        let p' : pos 0 ≤ℤ orientation_of v a b c d = omega (arith, ints) in
        let f = mul_not_negative (orientation_of v a b c d) (w.weight u) p' (w.not_negative u h) in
        omega (arith, ints, e, m, f)))

    pick :
        Found (is_before v a b c) w.weight (orientation_of v a b c) (below v.count) →
        ((u : ℕ) → Has v u → orientation_of v a b c u ≤ℤ pos 0) ⊎ ((d : ℕ) × IsCell v a b c d)
    pick (inl n) =
        inl (λ u h. above_false (orientation_of v a b c u) (and_false (v.is_in u) _ (n u (below_has v.count u h.0)) h.1))
    pick (inr z) =
        let k : IsBest (is_before v a b c) w.weight (orientation_of v a b c) (below v.count) z.0 = z.1 in
        let h : Has v z.0 = (below_gives v.count z.0 k.listed, (and_parts (v.is_in z.0) _ k.passes).0) in
        let p : pos 0 <ℤ orientation_of v a b c z.0 =
        above_true (orientation_of v a b c z.0) (and_parts (v.is_in z.0) _ k.passes).1 in
        inr (z.0, record { has_a = ha; has_b = hb; has_c = hc; has_d = h; positive = p; clear = clear z.0 h k p })

-- a facet of a cell is an outer one, or has a cell across it
pub across : (v : Vertices) (a b c d : ℕ) → IsCell v a b c d → IsOuter v a b c ⊎ ((e : ℕ) × IsCell v a c b e)
across v a b c d k =
    ⊎_elim (λ n. inl
    (λ u h. let m : orientation_of v a c b u ≤ℤ pos 0 = n u h in
    let e = turned_orientation (v.at a) (v.at b) (v.at c) (v.at u) in
    omega (arith, ints, m, e))) (λ z. inr z)
    (wrap v a c b k.has_a k.has_c k.has_b (record {
      base = orientation_of v a b c d;
      weight = power_of v a b c d;
      base_positive = k.positive;
      not_negative = k.clear;
      is = λ e u.
          let t =
          three_terms (v.at a) (v.at b) (v.at c) (v.at d) (v.at e) (v.at u) (v.high a) (v.high b) (v.high c) (v.high d)
          (v.high e) (v.high u) in
          let g = turned_orientation (v.at a) (v.at b) (v.at c) (v.at u) in
          let f : power_of v a b c d e *ℤ orientation_of v a c b u ≡ neg_ℤ (power_of v a b c d e *ℤ orientation_of v a b c u) =
          ap (λ y. power_of v a b c d e *ℤ y) g ∙ *ℤ-neg (power_of v a b c d e) (orientation_of v a b c u) in
          omega (arith, ints, t, f);
    }))

-- a vertex before a facet is none of the facet's
pub before_not : (v : Vertices) (a b c u : ℕ) → orientation_of v a b c u ≢ pos 0 → (u ≢ a) × (u ≢ b) × (u ≢ c)
before_not v a b c u h = grind (arith, flat_a, flat_b, flat_c)

pub above_not_zero : (z : ℤ) → pos 0 <ℤ z → z ≢ pos 0
above_not_zero z h e = absurd (omega (arith, ints))

-- the power of a vertex that is none of the cell's is not zero
pub outside_above :
    (v : Vertices) → IsGeneric v → (a b c d u : ℕ) → IsCell v a b c d → Has v u → orientation_of v a b c u ≢ pos 0 → u ≢ d →
    pos 0 <ℤ power_of v a b c d u
outside_above v g a b c d u k h o n =
    by_lt_z (pos 0) (power_of v a b c d u) (λ l. l)
    (λ l.
    let m = k.clear u h in
    let e : power_of v a b c d u ≡ pos 0 = omega (arith, ints, m, l) in
    let q = before_not v a b c u o in
    absurd (⊎_elim q.0 (⊎_elim q.1 (⊎_elim q.2 n)) (g a b c d u k.has_a.0 k.has_b.0 k.has_c.0 k.has_d.0 h.0 k.positive e)))

-- a facet has one cell at most
pub one_over : (v : Vertices) → IsGeneric v → (a b c d e : ℕ) → IsCell v a b c d → IsCell v a b c e → d ≡ e
one_over v g a b c d e k l =
    let t =
    exchanged_power (v.at a) (v.at b) (v.at c) (v.at d) (v.at e) (v.high a) (v.high b) (v.high c) (v.high d) (v.high e) in
    let m = k.clear e l.has_d in
    let n = l.clear d k.has_d in
    let z : power_of v a b c d e ≡ pos 0 = omega (arith, ints, t, m, n) in
    let q = before_not v a b c e (above_not_zero (orientation_of v a b c e) l.positive) in
    sym (⊎_elim (λ x. absurd (q.0 x)) (⊎_elim (λ x. absurd (q.1 x)) (⊎_elim (λ x. absurd (q.2 x)) (λ x. x)))
    (g a b c d e k.has_a.0 k.has_b.0 k.has_c.0 k.has_d.0 l.has_d.0 k.positive z))
