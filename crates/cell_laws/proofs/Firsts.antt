-- The first of four lines that a moving place passes. Number k is p k at the start and s k at the end; among those that end
-- below 0 one gets to 0 first. There is no geometry here.
-- Stands on: Order.
use Rattle.std.proofs.Common.{ℕ, zero, suc, ◌<◌, ◌≡◌, ◌≢◌, sym, subst, inl, inr, ⊎_elim, ◌⊎◌, arith, ℤ, pos, neg_ℤ, ◌+ℤ◌, ◌-ℤ◌}
use Rattle.std.proofs.Common.{◌*ℤ◌, ◌≤ℤ◌, ◌<ℤ◌, [], ◌∷◌}
use Rattle.std.proofs.lemmas.Int.{ints, by_lt_z}
use Rattle.std.proofs.lemmas.Bool.{eqb-true, eqb-false}
use Rattle.geo_sign.specs.Polynomial.{difference, product, sum, variable}
use Rattle.geo_sign.proofs.Ring.{ring}
use Rattle.cell_laws.proofs.Order.{factor_above, factor_below, factor_not_above, mul_not_above, mul_positive}

-- above 0 where k is passed before l
abbrev pub lead_of : (ℕ → ℤ) → (ℕ → ℤ) → ℕ → ℕ → ℤ
lead_of p s l k = p k *ℤ s l -ℤ p l *ℤ s k

pub record IsFirst (p s : ℕ → ℤ) (n : ℕ) : Type 0 where
  pub at : ℕ
  pub below : at < n
  pub passed : s at <ℤ pos 0
  pub first : (k : ℕ) → k < n → s k <ℤ pos 0 → lead_of p s at k ≤ℤ pos 0

three_leads : (a b c x y z : ℤ) → a *ℤ (b *ℤ z -ℤ c *ℤ y) ≡ b *ℤ (a *ℤ z -ℤ c *ℤ x) +ℤ c *ℤ (b *ℤ x -ℤ a *ℤ y)
three_leads a b c x y z =
    ring (a ∷ b ∷ c ∷ x ∷ y ∷ z ∷ [])
    (product (variable 0) (difference (product (variable 1) (variable 5)) (product (variable 2) (variable 4))))
    (sum (product (variable 1) (difference (product (variable 0) (variable 5)) (product (variable 2) (variable 3))))
    (product (variable 2) (difference (product (variable 1) (variable 3)) (product (variable 0) (variable 4))))) tt

flip : (a b x y : ℤ) → a *ℤ y -ℤ b *ℤ x ≡ neg_ℤ (b *ℤ x -ℤ a *ℤ y)
flip a b x y = omega (arith, ints)

-- where n is passed before l, and l not after k, n is passed before k
before_both :
    (p s : ℕ → ℤ) (l n k : ℕ) → pos 0 <ℤ p l → pos 0 <ℤ p n → pos 0 <ℤ p k → pos 0 <ℤ lead_of p s l n →
    lead_of p s l k ≤ℤ pos 0 → lead_of p s n k ≤ℤ pos 0
before_both p s l n k hl hn hk h i =
    let e = three_leads (p l) (p k) (p n) (s l) (s k) (s n) in
    let f : p l *ℤ s n -ℤ p n *ℤ s l ≡ neg_ℤ (lead_of p s l n) = flip (p l) (p n) (s l) (s n) in
    let hk' : pos 0 ≤ℤ p k = omega (arith, ints) in
    let hn' : pos 0 ≤ℤ p n = omega (arith, ints) in
    let g : (p l *ℤ s n -ℤ p n *ℤ s l) ≤ℤ pos 0 = omega (arith, ints, f, h) in
    let a = mul_not_above (p k) (p l *ℤ s n -ℤ p n *ℤ s l) hk' g in
    let b = mul_not_above (p n) (lead_of p s l k) hn' i in
    factor_not_above (p l) (lead_of p s n k) hl (omega (arith, ints, e, a, b))

below_last : {P : Type 0} (k n : ℕ) → k < suc n → (k < n → P) → (k ≡ n → P) → P
below_last {P} k n h f g = grind (arith, eqb-true, eqb-false)

pub first_or_none :
    (p s : ℕ → ℤ) → ((k : ℕ) → s k <ℤ pos 0 → pos 0 <ℤ p k) → (n : ℕ) → IsFirst p s n ⊎ ((k : ℕ) → k < n → pos 0 ≤ℤ s k)
first_or_none p s h zero = inr (λ k l. absurd (omega arith))
first_or_none p s h (suc n) = by (first_or_none p s h n)
  where
    new : s n <ℤ pos 0 → ((k : ℕ) → k < n → s k <ℤ pos 0 → lead_of p s n k ≤ℤ pos 0) → IsFirst p s (suc n)
    new l f =
        record {
          at = n;
          below = omega arith;
          passed = l;
          first =
              λ k b m. below_last k n b (λ i. f k i m)
              (λ i. subst (λ (j : ℕ). lead_of p s n j ≤ℤ pos 0) (sym i) (omega (arith, ints)));
        }

    old : (i : IsFirst p s n) → (s n <ℤ pos 0 → lead_of p s i.at n ≤ℤ pos 0) → IsFirst p s (suc n)
    old i f =
        let b' = i.below in
        record {
          at = i.at;
          below = omega arith;
          passed = i.passed;
          first =
              λ k b m. below_last k n b (λ j. i.first k j m)
              (λ j. subst (λ (x : ℕ). lead_of p s i.at x ≤ℤ pos 0) (sym j) (f (subst (λ (x : ℕ). s x <ℤ pos 0) j m)));
        }

    by : IsFirst p s n ⊎ ((k : ℕ) → k < n → pos 0 ≤ℤ s k) → IsFirst p s (suc n) ⊎ ((k : ℕ) → k < suc n → pos 0 ≤ℤ s k)
    by (inl i) =
        by_lt_z (s n) (pos 0)
        (λ l. by_lt_z (pos 0) (lead_of p s i.at n)
        (λ m. inl (new l (λ k b o. before_both p s i.at n k (h i.at i.passed) (h n l) (h k o) m (i.first k b o))))
        (λ m. inl (old i (λ _. m))))
        (λ l. inl (old i (λ m. absurd (omega (arith, ints, l, m)))))
    by (inr f) =
        by_lt_z (s n) (pos 0)
        (λ l. inl (new l (λ k b o. let g = f k b in absurd (omega (arith, ints, g, o)))))
        (λ l. inr (λ k b. below_last k n b (f k) (λ i. subst (λ (x : ℕ). pos 0 ≤ℤ s x) (sym i) l)))

-- ---- from a mixture of start and end on
abbrev pub IsAhead : ℤ → ℤ → Type 0
IsAhead x y = (pos 0 <ℤ x) ⊎ ((x ≡ pos 0) × (pos 0 <ℤ y))

pub record IsPast (p s : ℕ → ℤ) (i j : ℤ) : Type 0 where
  pub at : (k : ℕ) → IsAhead (i *ℤ p k +ℤ j *ℤ s k) (s k)

pub past_ended : (p s : ℕ → ℤ) (i j : ℤ) → IsPast p s i j → (k : ℕ) → s k <ℤ pos 0 → pos 0 <ℤ (i *ℤ p k +ℤ j *ℤ s k)
past_ended p s i j h k l = grind (arith, ints)

pub past_not_below : (p s : ℕ → ℤ) (i j : ℤ) → IsPast p s i j → (k : ℕ) → pos 0 ≤ℤ (i *ℤ p k +ℤ j *ℤ s k)
past_not_below p s i j h k =
    ⊎_elim (λ (a : pos 0 <ℤ (i *ℤ p k +ℤ j *ℤ s k)). let r : pos 0 ≤ℤ (i *ℤ p k +ℤ j *ℤ s k) = omega (arith, ints, a) in r)
    (λ (a : (i *ℤ p k +ℤ j *ℤ s k ≡ pos 0) × (pos 0 <ℤ s k)). let b = a.0 in
    let r : pos 0 ≤ℤ (i *ℤ p k +ℤ j *ℤ s k) = omega (arith, ints, b) in
    r) (h.at k)

pub starts_above : (p s : ℕ → ℤ) (i j : ℤ) → pos 0 <ℤ i → pos 0 ≤ℤ j → IsPast p s i j → (k : ℕ) → s k <ℤ pos 0 → pos 0 <ℤ p k
starts_above p s i j hi hj h k l =
    let a = past_ended p s i j h k l in
    let l' : s k ≤ℤ pos 0 = omega (arith, ints) in
    let b = mul_not_above j (s k) hj l' in
    factor_above i (p k) hi (omega (arith, ints, a, b))

lead_mixed : (i j a b x y : ℤ) → i *ℤ (b *ℤ x -ℤ a *ℤ y) ≡ x *ℤ (i *ℤ b +ℤ j *ℤ y) -ℤ y *ℤ (i *ℤ a +ℤ j *ℤ x)
lead_mixed i j a b x y =
    ring (i ∷ j ∷ a ∷ b ∷ x ∷ y ∷ [])
    (product (variable 0) (difference (product (variable 3) (variable 4)) (product (variable 2) (variable 5))))
    (difference (product (variable 4) (sum (product (variable 0) (variable 3)) (product (variable 1) (variable 5))))
    (product (variable 5) (sum (product (variable 0) (variable 2)) (product (variable 1) (variable 4))))) tt

mul_comm_below : (a b : ℤ) → a <ℤ pos 0 → pos 0 ≤ℤ b → (a *ℤ b) ≤ℤ pos 0
mul_comm_below a b h k = grind (arith, ints, ring, mul_not_above)

-- one that ends above 0 is not passed before one that ends below
pub not_passed :
    (p s : ℕ → ℤ) (i j : ℤ) → pos 0 <ℤ i → IsPast p s i j → (l k : ℕ) → s l <ℤ pos 0 → pos 0 <ℤ s k → lead_of p s l k <ℤ pos 0
not_passed p s i j hi h l k hl hk =
    let e = lead_mixed i j (p l) (p k) (s l) (s k) in
    let a = mul_comm_below (s l) (i *ℤ p k +ℤ j *ℤ s k) hl (past_not_below p s i j h k) in
    let b = mul_positive (s k) (i *ℤ p l +ℤ j *ℤ s l) hk (past_ended p s i j h l hl) in
    factor_below i (lead_of p s l k) hi (omega (arith, ints, e, a, b))

-- ---- where the first is passed
pub record IsExit (p s : ℕ → ℤ) (l : ℕ) : Type 0 where
  pub start : pos 0 <ℤ p l
  pub end : s l <ℤ pos 0
  pub others : (k : ℕ) → k < 4 → k ≢ l → lead_of p s l k <ℤ pos 0

pub exit_or_end :
    (p s : ℕ → ℤ) (i j : ℤ) → pos 0 <ℤ i → pos 0 ≤ℤ j → IsPast p s i j → ((k : ℕ) → s k ≢ pos 0) →
    ((l k : ℕ) → l < 4 → k < 4 → k ≢ l → p l ≢ pos 0 → lead_of p s l k ≢ pos 0) →
    ((l : ℕ) × (l < 4) × IsExit p s l) ⊎ ((k : ℕ) → k < 4 → pos 0 <ℤ s k)
exit_or_end p s i j hi hj h n e =
    ⊎_elim
    (λ (f : IsFirst p s 4).
    let up = starts_above p s i j hi hj h f.at f.passed in
    let others : (k : ℕ) → k < 4 → k ≢ f.at → lead_of p s f.at k <ℤ pos 0 =
    λ k b d. by_lt_z (s k) (pos 0)
    (λ m. let r = f.first k b m in
    let x : p f.at ≢ pos 0 = λ y. absurd (omega (arith, ints, y, up)) in
    let q = e f.at k f.below b d x in
    by_lt_z (lead_of p s f.at k) (pos 0) (λ g. g) (λ g. absurd (q (omega (arith, ints, g, r)))))
    (λ m. let z = n k in
    by_lt_z (pos 0) (s k) (λ g. not_passed p s i j hi h f.at k f.passed g) (λ g. absurd (z (omega (arith, ints, g, m))))) in
    inl (f.at, f.below, record { start = up; end = f.passed; others = others }))
    (λ (g : (k : ℕ) → k < 4 → pos 0 ≤ℤ s k).
    inr (λ k b. let m = g k b in let z = n k in by_lt_z (pos 0) (s k) (λ l. l) (λ l. absurd (z (omega (arith, ints, l, m))))))
    (first_or_none p s (starts_above p s i j hi hj h) 4)
