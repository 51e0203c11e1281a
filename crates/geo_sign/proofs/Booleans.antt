-- Tests that say the same, and tests of all numbers below one.
use Rattle.std.proofs.Common.{ℕ, zero, suc, ◌≡◌, ◌<◌, ◌&&◌, Bool, true, false, refl, sym, subst, inl, inr, arith}
use Rattle.std.proofs.lemmas.Bool.{cases_lt, and_parts}

-- two tests are one where each is true where the other is
pub same_bools : (a b : Bool) → (a ≡ true → b ≡ true) → (b ≡ true → a ≡ true) → a ≡ b
same_bools true b f g = sym (f refl)
same_bools false true f g = g refl
same_bools false false f g = refl

-- each number below n passes
abbrev pub every : ℕ → (ℕ → Bool) → Bool
every zero f = true
every (suc n) f = every n f && f n

pub every_at : (n : ℕ) (f : ℕ → Bool) → every n f ≡ true → (k : ℕ) → k < n → f k ≡ true
every_at zero f h k l = absurd (omega arith)
every_at (suc n) f h k l = elim (cases_lt k n) [
  | inl less ↦ every_at n f (and_parts (every n f) (f n) h).0 k less
  | inr more ↦ let e : n ≡ k = omega arith in subst (λ (i : ℕ). f i ≡ true) e (and_parts (every n f) (f n) h).1
]
