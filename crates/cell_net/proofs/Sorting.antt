-- Each list has a sorted one: an element more is put before the first that has a larger number.
use Rattle.std.proofs.Common.{ℕ, ◌<◌, arith, List, [], ◌∷◌, length, get_or, nat_lt}
use Rattle.std.specs.List.{insert, position_or_len}
use Rattle.std.specs.List.Sorted.{IsPermutation, IsNonDecreasingBy}
use Rattle.std.proofs.lemmas.Bool.{ltb-true, ltb-false}
use Rattle.std.proofs.lemmas.List.Sorted.{IsPermutation-refl, IsPermutation-cons, IsPermutation-insert, IsPermutation-trans}
use Rattle.std.proofs.lemmas.List.Sorted.{IsNonDecreasingBy-short, IsNonDecreasingBy-insert}
use Rattle.std.proofs.lemmas.List.Sums.{fails_before_first, passes_at_first, prefix_len-le-length}

-- sorted by a number
pub record IsSortOf {X : Type 0} (n : X → ℕ) (xs ys : List X) : Type 0 where
  pub moved : IsPermutation xs ys
  pub sorted : IsNonDecreasingBy n ys

inserted : {X : Type 0} (n : X → ℕ) (x : X) (ys : List X) → IsNonDecreasingBy n ys
    → IsNonDecreasingBy n (insert ys (position_or_len (λ y. nat_lt (n x) (n y)) ys) x)
inserted n x ys sorted =
    IsNonDecreasingBy-insert n ys (position_or_len (λ y. nat_lt (n x) (n y)) ys) x sorted (prefix_len-le-length _ ys)
    (λ k d l. ltb-false (n x) (n (get_or ys k d)) (fails_before_first (λ y. nat_lt (n x) (n y)) ys k d l))
    (λ k d l m.
    let first : position_or_len (λ y. nat_lt (n x) (n y)) ys < length ys = omega (arith, l, m) in
    let here : n x < n (get_or ys (position_or_len (λ y. nat_lt (n x) (n y)) ys) d) =
    ltb-true (n x) _ (passes_at_first (λ y. nat_lt (n x) (n y)) ys d first) in
    let later = sorted (position_or_len (λ y. nat_lt (n x) (n y)) ys) k d l m in
    omega (arith, here, later))

pub sorted_of : {X : Type 0} (n : X → ℕ) (xs : List X) → (ys : List X) × IsSortOf n xs ys
sorted_of n [] = ([], record { moved = IsPermutation-refl []; sorted = IsNonDecreasingBy-short n [] (omega arith) })
sorted_of {X} n (x ∷ xs) = by (sorted_of n xs)
  where
    by : ((ys : List X) × IsSortOf n xs ys) → (ys : List X) × IsSortOf n (x ∷ xs) ys
    by (ys, h) =
        let i : ℕ = position_or_len (λ y. nat_lt (n x) (n y)) ys in (
          insert ys i x,
          record {
            moved =
                IsPermutation-trans (x ∷ xs) (x ∷ ys) (insert ys i x) (IsPermutation-cons x xs ys h.moved)
                (IsPermutation-insert ys i x);
            sorted = inserted n x ys h.sorted;
          },
        )
