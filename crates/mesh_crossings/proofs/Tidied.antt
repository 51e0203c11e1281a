-- Sorted pairs without repeats, and two lists of them.
use Rattle.std.proofs.Common.{ℕ, ◌≡◌, ◌+◌, ◌<◌, ◌≤◌, ◌^◌, ◌⊎◌, inl, inr, ap, sym, ◌∙◌, subst, arith, List, [], length, get_or}
use Rattle.std.specs.List.{All, Contains}
use Rattle.std.specs.List.Sorted.{IsNonDecreasingBy, IsPermutation}
use Rattle.std.proofs.lemmas.Bool.{cases_lt}
use Rattle.std.proofs.lemmas.List.{get_or_default}
use Rattle.std.proofs.lemmas.List.Elements.{All-contains, All-contains_itself}
use Rattle.std.proofs.lemmas.List.Sorted.{Contains-permutation, IsPermutation-sym}
use Rattle.mesh_edges.specs.Pairs.{key_of_pair}
use Rattle.mesh_edges.specs.declared.pairs.Pair.{Pair}
use Rattle.mesh_edges.proofs.FaceEdges.{key_parts}
use Rattle.mesh_crossings.specs.Crossings.{AreDisjoint, IsRising}
use Rattle.mesh_crossings.specs.Tested.{AreSamePairs, IsOneMore, KeepsPairs}

abbrev pub made : (a b : ℕ) → Pair
made a b = record { first = a; second = b }

-- a key is that of one pair
pub same_pair : (p q : Pair) → p.second < 2 ^ 32 → q.second < 2 ^ 32 → key_of_pair p ≡ key_of_pair q → p ≡ q
same_pair p q l m e =
    let parts = key_parts p.first p.second q.first q.second l m e in
    ap (λ (a : ℕ). made a p.second) parts.0 ∙ ap (λ (b : ℕ). made q.first b) parts.1

-- the pair is among the first n
abbrev pub IsAmong : List Pair → (n : ℕ) → Pair → Type 0
IsAmong pairs n q = (k : ℕ) × (k < n) × (k < length pairs) × (get_or pairs k q ≡ q)

-- each of the first n pairs is in one of two lists, which ascend and have no others
pub record AreDivided (pairs one other : List Pair) (n : ℕ) : Type 0 where
  pub once : IsRising one
  pub other_once : IsRising other
  pub from : (q : Pair) → Contains one q → IsAmong pairs n q
  pub other_from : (q : Pair) → Contains other q → IsAmong pairs n q
  pub disjoint : AreDisjoint one other
  pub has : (k : ℕ) (d : Pair) → k < n → k < length pairs → Contains one (get_or pairs k d) ⊎ Contains other (get_or pairs k d)

pub swapped : (pairs one other : List Pair) (n : ℕ) → AreDivided pairs one other n → AreDivided pairs other one n
swapped pairs one other n was =
    record {
      once = was.other_once;
      other_once = was.once;
      from = was.other_from;
      other_from = was.from;
      disjoint = λ q has also. was.disjoint q also has;
      has = λ k d l m.
          elim (was.has k d l m) [
            | inl is ↦ inr is
            | inr is ↦ inl is
          ];
    }

pub in_order : (pairs : List Pair) → IsRising pairs → IsNonDecreasingBy key_of_pair pairs
in_order pairs rising i j d l m =
    elim (cases_lt i j) [
      | inl less ↦ omega (arith, rising i j d less m)
      | inr past ↦
          let same : i ≡ j = omega arith in
          omega (arith, ap (λ (k : ℕ). key_of_pair (get_or pairs k d)) same)
    ]

module _ (pairs : List Pair) (n : ℕ) (p d : Pair) (l : n < length pairs) (e : p ≡ get_or pairs n d) where
  pub all_below : IsNonDecreasingBy key_of_pair pairs → (list : List Pair) → ((q : Pair) → Contains list q → IsAmong pairs n q)
      → All (λ q. key_of_pair q ≤ key_of_pair p) list
  all_below sorted list from k c m =
      let was = from (get_or list k c) (All-contains_itself list k c m) in
      omega (
        arith,
        sorted was.0 n (get_or list k c) (omega (arith, was.1)) l,
        ap key_of_pair was.3,
        ap key_of_pair e,
        ap key_of_pair (get_or_default pairs n d (get_or list k c) l),
      )

  -- if no pair is repeated
  pub is_new : IsRising pairs → IsAmong pairs n p → ⊥
  is_new rising was =
      absurd
      (omega (
        arith,
        rising was.0 n p was.1 l,
        ap key_of_pair was.3,
        ap key_of_pair e,
        ap key_of_pair (get_or_default pairs n d p l),
      ))

  later : (q : Pair) → IsAmong pairs n q → IsAmong pairs (n + 1) q
  later q was = (was.0, omega (arith, was.1), was.2, was.3)

  -- the pair comes to the first list
  pub one_divided : (one more other : List Pair) → IsRising more → KeepsPairs one more → Contains more p → IsOneMore one p more
      → (Contains other p → ⊥) → AreDivided pairs one other n → AreDivided pairs more other (n + 1)
  one_divided one more other rise kept here only new was =
      record {
        once = rise;
        other_once = was.other_once;
        from = λ q has.
            elim (only q has) [
              | inl old ↦ later q (was.from q old)
              | inr same ↦ (n, omega arith, l, get_or_default pairs n q d l ∙ (sym e ∙ sym same))
            ];
        other_from = λ q has. later q (was.other_from q has);
        disjoint = λ q has also.
            elim (only q has) [
              | inl old ↦ was.disjoint q old also
              | inr same ↦ new (subst (Contains other) same also)
            ];
        has = λ k c m o.
            elim (cases_lt k n) [
              | inl less ↦ elim (was.has k c less o) [
                | inl is ↦ inl (kept _ is)
                | inr is ↦ inr is
              ]
              | inr past ↦
                  let same : n ≡ k = omega arith in
                  inl
                  (subst (Contains more) (e ∙ (ap (λ (j : ℕ). get_or pairs j d) same ∙ get_or_default pairs k d c o)) here)
            ];
      }

-- all in one list
pub all_passed : (pairs list : List Pair) (n : ℕ) → length pairs ≤ n → AreDivided pairs list [] n → AreSamePairs pairs list
all_passed pairs list n end was = (
  λ p has.
      elim (was.has has.0 p (omega (arith, has.1)) has.1) [
        | inl is ↦ subst (Contains list) has.2 is
        | inr is ↦ absurd (omega (arith, is.1))
      ],
  λ p has. let f = was.from p has in (f.0, f.2, f.3),
)

-- after sorting
pub moved_pairs : (old mid new : List Pair) → IsPermutation old mid → AreSamePairs mid new → AreSamePairs old new
moved_pairs old mid new moved same = (
  λ p has. same.0 p (Contains-permutation old mid p moved has),
  λ p has. Contains-permutation mid old p (IsPermutation-sym old mid moved) (same.1 p has),
)

-- what all pairs are, those of a list without others are
pub all_same : (P : Pair → Type 0) (old new : List Pair) → KeepsPairs new old → All P old → All P new
all_same P old new back all k d l = All-contains P old (get_or new k d) all (back (get_or new k d) (All-contains_itself new k d l))
