-- The numbers of a leaf.
use Rattle.std.proofs.Common.{ℕ, ◌≡◌, ◌+◌, ◌*◌, ◌/◌, inl, inr, arith, subst, List}
use Rattle.std.specs.List.{Contains}
use Rattle.std.proofs.lemmas.Bool.{cases_lt}

-- four of them
pub all_of_leaf : (found : List ℕ) (leaf : ℕ) → Contains found (4 * leaf) → Contains found (4 * leaf + 1)
    → Contains found (4 * leaf + 2) → Contains found (4 * leaf + 3) → (i : ℕ) → i / 4 ≡ leaf → Contains found i
all_of_leaf found leaf a b c d i e =
    elim (cases_lt i (4 * leaf + 1)) [
      | inl l ↦ at (4 * leaf) (omega arith) a
      | inr l ↦ elim (cases_lt i (4 * leaf + 2)) [
        | inl m ↦ at (4 * leaf + 1) (omega arith) b
        | inr m ↦ elim (cases_lt i (4 * leaf + 3)) [
          | inl n ↦ at (4 * leaf + 2) (omega arith) c
          | inr n ↦ at (4 * leaf + 3) (omega arith) d
        ]
      ]
    ]
  where
    at : (k : ℕ) → k ≡ i → Contains found k → Contains found i
    at k s h = subst (λ (j : ℕ). Contains found j) s h
