-- Numbers that are each below the next one ascend.
use Rattle.std.proofs.Common.{ℕ, zero, suc, ◌≡◌, ◌+◌, ◌<◌, inl, inr, ap, arith, List, length, get_or}
use Rattle.std.specs.List.{AllPairs}
use Rattle.std.proofs.lemmas.Bool.{cases_lt}
use Rattle.std.proofs.lemmas.List.{get_or_default}

rising_to : (xs : List ℕ) (i j : ℕ) → ((k : ℕ) → k + 1 < length xs → get_or xs k 0 < get_or xs (k + 1) 0) → i < j
    → j < length xs → get_or xs i 0 < get_or xs j 0
rising_to xs i zero next l m = absurd (omega arith)
rising_to xs i (suc j) next l m =
    let step : get_or xs j 0 < get_or xs (j + 1) 0 = next j (omega arith) in
    let same : get_or xs (j + 1) 0 ≡ get_or xs (suc j) 0 = ap (λ (k : ℕ). get_or xs k 0) (omega arith) in
    elim (cases_lt i j) [
      | inl b ↦ omega (arith, rising_to xs i j next b (omega arith))
      | inr b ↦
          let e : get_or xs i 0 ≡ get_or xs j 0 = ap (λ (k : ℕ). get_or xs k 0) (omega arith) in
          omega arith
    ]

pub all_rising : (xs : List ℕ) → ((k : ℕ) → k + 1 < length xs → get_or xs k 0 < get_or xs (k + 1) 0) → AllPairs (λ u v. u < v) xs
all_rising xs next i j d l m =
    omega (
      arith,
      rising_to xs i j next l m,
      get_or_default xs i d 0 (omega arith),
      get_or_default xs j d 0 m,
    )
