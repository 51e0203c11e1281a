use Rattle.std.proofs.Common.{ℕ, ◌≡◌, ◌==◌, ◌&&◌, not, ap, ◌∙◌, arith, rules, List, map, sym}
use Rattle.std.specs.Ordering.{nat_cmp, is_lt}
use Rattle.std.specs.List.Sorted.{ties, IsStableByKey}
use Rattle.std.proofs.lemmas.Bool.Decides.{nat_tests}
use Rattle.std.proofs.lemmas.List.Elements.{filter_agree}
use Rattle.std.proofs.lemmas.List.Sorted.{IsNonDecreasingBy-from_sort, answers_always}
use Rattle.solid_slice.specs.Crossings.{key_of_crossing, the_crossed, faces_of_pair}
use Rattle.solid_slice.specs.declared.crossings.Crossing.{Crossing}
use Rattle.solid_slice.proofs.crossings.sort_crossings.Goals as goal

-- two keys tie where they are the same
tie_is : (a b k : ℕ) → a ≡ k → (not (is_lt (nat_cmp a b)) && not (is_lt (nat_cmp b a))) ≡ (b == k)
tie_is a b k e = grind (arith, nat_tests)

-- the crossings with one key keep their order
kept : (k : ℕ) (xs ys : List Crossing) → IsStableByKey key_of_crossing nat_cmp xs ys → faces_of_pair k ys ≡ faces_of_pair k xs
kept k xs ys stable =
    let c : Crossing = record { edge = record { first = 0; second = k }; face = 0 } in
    let same = λ (d : Crossing). tie_is (key_of_crossing c) (key_of_crossing d) k (omega arith) in
    let test = λ (d : Crossing). key_of_crossing d == k in
    let tied = ties (λ (x y : Crossing). is_lt (nat_cmp (key_of_crossing x) (key_of_crossing y))) c in
    ap (λ (t : List Crossing). map the_crossed t)
    (sym (filter_agree tied test same ys) ∙ (stable c ∙ filter_agree tied test same xs))

pub returns-clause-sorted : goal.returns-clause-sorted
returns-clause-sorted c =
    IsNonDecreasingBy-from_sort key_of_crossing _
    (c.in_ok-sort_by_key.ensures.sorted key_of_crossing (answers_always _ _ _ (λ f a r g h. search rules)))

pub returns-clause-stable : goal.returns-clause-stable
returns-clause-stable c =
    λ k. kept k _ _ (c.in_ok-sort_by_key.ensures.stable key_of_crossing (answers_always _ _ _ (λ f a r g h. search rules)))
