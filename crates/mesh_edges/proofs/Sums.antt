-- Sums over the numbers below n, and that an involution does not change one.
--
-- The sum of f over t h is the sum over all h and j of f j where t h is j. In the other order of summation, j is t h for h = t j alone,
-- so each f j counts once.
use Rattle.std.proofs.Common.{ℕ, zero, suc, ◌≡◌, ◌+◌, ◌*◌, ◌<◌, ◌≤◌, ◌==◌, ◌⊎◌, refl, ap, sym, ◌∙◌, arith, Bool, cond, inl, inr}
use Rattle.std.proofs.lemmas.Bool.{cases_lt}
use Rattle.std.proofs.lemmas.Bool.Decides.{nat_tests}

-- the sum of f over the numbers below n
unfoldable pub sum_below : (ℕ → ℕ) → ℕ → ℕ
sum_below f zero = 0
sum_below f (suc n) = sum_below f n + f n

pub sum_next : (f : ℕ → ℕ) (n : ℕ) → sum_below f (suc n) ≡ sum_below f n + f n
unfolding sum_below
sum_next f n = refl

pub sum_none : (f : ℕ → ℕ) → sum_below f 0 ≡ 0
unfolding sum_below
sum_none f = refl

-- what is the same at each number has the same sum
pub sum_same : (f g : ℕ → ℕ) (n : ℕ) → ((i : ℕ) → i < n → f i ≡ g i) → sum_below f n ≡ sum_below g n
sum_same f g zero e = sum_none f ∙ sym (sum_none g)
sum_same f g (suc n) e =
    omega (arith, sum_next f n, sum_next g n, sum_same f g n (λ i l. e i (omega arith)), e n (omega arith))

-- a sum of sums
pub sum_plus : (f g : ℕ → ℕ) (n : ℕ) → sum_below (λ i. f i + g i) n ≡ sum_below f n + sum_below g n
sum_plus f g zero = omega (arith, sum_none (λ i. f i + g i), sum_none f, sum_none g)
sum_plus f g (suc n) = omega (arith, sum_next (λ i. f i + g i) n, sum_next f n, sum_next g n, sum_plus f g n)

sum_zero : (n : ℕ) → sum_below (λ _. 0) n ≡ 0
sum_zero zero = sum_none (λ _. 0)
sum_zero (suc n) = omega (arith, sum_next (λ _. 0) n, sum_zero n)

-- the order of summation
sum_swap : (f : ℕ → ℕ → ℕ) (n m : ℕ) → sum_below (λ i. sum_below (f i) m) n ≡ sum_below (λ j. sum_below (λ i. f i j) n) m
sum_swap f zero m =
    sum_none (λ i. sum_below (f i) m)
    ∙ sym (sum_same (λ j. sum_below (λ i. f i j) 0) (λ _. 0) m (λ j _. sum_none (λ i. f i j)) ∙ sum_zero m)
sum_swap f (suc n) m =
    sum_next (λ i. sum_below (f i) m) n
    ∙ (ap (λ (s : ℕ). s + sum_below (f n) m) (sum_swap f n m)
    ∙ (sym (sum_plus (λ j. sum_below (λ i. f i j) n) (f n) m)
    ∙ sum_same (λ j. sum_below (λ i. f i j) n + f n j) (λ j. sum_below (λ i. f i j) (suc n)) m (λ j _. sym (sum_next (λ i. f i j) n))))

-- x where the two numbers are the same, else 0
at : (t j x : ℕ) → ℕ
at t j x = cond (t == j) x 0

at_same : (t j x : ℕ) → t ≡ j → at t j x ≡ x
unfolding at
at_same t j x e = grind (arith, nat_tests)

at_other : (t j x : ℕ) → (t ≡ j → ⊥) → at t j x ≡ 0
unfolding at
at_other t j x e = grind (arith, nat_tests)

at_past : (f : ℕ → ℕ) (t n : ℕ) → n ≤ t → sum_below (λ j. at t j (f j)) n ≡ 0
at_past f t zero l = sum_none (λ j. at t j (f j))
at_past f t (suc n) l =
    omega (arith, sum_next (λ j. at t j (f j)) n, at_past f t n (omega arith), at_other t n (f n) (λ e. omega arith))

-- one term is left
sum_at : (f : ℕ → ℕ) (t n : ℕ) → t < n → sum_below (λ j. at t j (f j)) n ≡ f t
sum_at f t zero l = absurd (omega arith)
sum_at f t (suc n) l =
    elim (cases_lt t n) [
      | inl m ↦
          omega (arith, sum_next (λ j. at t j (f j)) n, sum_at f t n m, at_other t n (f n) (λ e. omega arith))
      | inr m ↦
          let e : t ≡ n = omega arith in
          omega (arith, sum_next (λ j. at t j (f j)) n, at_past f t n m, at_same t n (f n) e, ap f e)
    ]

-- an involution does not change a sum
pub sum_involution : (t f : ℕ → ℕ) (n : ℕ) → ((h : ℕ) → h < n → t h < n) → ((h : ℕ) → h < n → t (t h) ≡ h)
    → sum_below (λ h. f (t h)) n ≡ sum_below f n
sum_involution t f n within back =
    sum_same (λ h. f (t h)) (λ h. sum_below (λ j. at (t h) j (f j)) n) n (λ h l. sym (sum_at f (t h) n (within h l)))
    ∙ (sum_swap (λ h j. at (t h) j (f j)) n n
    ∙ sum_same (λ j. sum_below (λ h. at (t h) j (f j)) n) f n once)
  where
    turned : (j h : ℕ) → j < n → h < n → at (t h) j (f j) ≡ at (t j) h (f j)
    turned j h l m = by (cases_lt (t h) j) (cases_lt j (t h))
      where
        other : (t h ≡ j → ⊥) → at (t h) j (f j) ≡ at (t j) h (f j)
        other differ =
            at_other (t h) j (f j) differ
            ∙ sym (at_other (t j) h (f j) (λ e. differ (ap t (sym e) ∙ back j l)))

        by : (t h < j) ⊎ (j ≤ t h) → (j < t h) ⊎ (t h ≤ j) → at (t h) j (f j) ≡ at (t j) h (f j)
        by (inl a) _ = other (λ e. omega arith)
        by (inr a) (inl b) = other (λ e. omega arith)
        by (inr a) (inr b) =
            let e : t h ≡ j = omega arith in
            at_same (t h) j (f j) e ∙ sym (at_same (t j) h (f j) (ap t (sym e) ∙ back h m))

    once : (j : ℕ) → j < n → sum_below (λ h. at (t h) j (f j)) n ≡ f j
    once j l =
        sum_same (λ h. at (t h) j (f j)) (λ h. at (t j) h (f j)) n (λ h m. turned j h l m)
        ∙ sum_at (λ _. f j) (t j) n (within j l)

-- three terms at a time
pub sum_by_threes : (f : ℕ → ℕ) (n : ℕ)
    → sum_below f (3 * n) ≡ sum_below (λ i. f (3 * i) + f (3 * i + 1) + f (3 * i + 2)) n
sum_by_threes f zero = sum_none f ∙ sym (sum_none (λ i. f (3 * i) + f (3 * i + 1) + f (3 * i + 2)))
sum_by_threes f (suc n) =
    let e : 3 * suc n ≡ suc (suc (suc (3 * n))) = omega arith in
    omega (
      arith,
      ap (sum_below f) e,
      sum_next f (suc (suc (3 * n))),
      sum_next f (suc (3 * n)),
      sum_next f (3 * n),
      sum_next (λ i. f (3 * i) + f (3 * i + 1) + f (3 * i + 2)) n,
      sum_by_threes f n,
      ap f (one (3 * n)),
      ap f (two (3 * n)),
    )
  where
    one : (m : ℕ) → suc m ≡ m + 1
    one m = omega arith

    two : (m : ℕ) → suc (suc m) ≡ m + 2
    two m = omega arith
