-- How often a key occurs in lists that are sorted by it.
use Rattle.std.proofs.Common.{ℕ, suc, ◌≡◌, ◌+◌, ◌<◌, ◌≤◌, ◌==◌, refl, ap, sym, ◌∙◌, arith, Bool, cond, List, [], ◌∷◌, length}
use Rattle.std.proofs.Common.{get_or, take, drop, map, inl, inr, ◌⊎◌}
use Rattle.std.specs.List.{All, count_by}
use Rattle.std.specs.List.Sorted.{IsNonDecreasingBy}
use Rattle.std.proofs.lemmas.Bool.{cases_lt}
use Rattle.std.proofs.lemmas.Bool.Decides.{nat_tests}
use Rattle.std.proofs.lemmas.List.{get_or-drop, get_or_default, length-drop, drop_more}
use Rattle.std.proofs.lemmas.List.Elements.{All-tail}
use Rattle.std.proofs.lemmas.List.Sums.{sum_by-cons, sum_by-take-drop}

abbrev pub one_if : Bool → ℕ
one_if b = cond b 1 0

-- how often
abbrev pub hits : {X : Type 0} → (X → ℕ) → ℕ → List X → ℕ
hits key k xs = count_by (λ x. key x == k) xs

pub hit_no : (a k : ℕ) → (a ≡ k → ⊥) → one_if (a == k) ≡ 0
hit_no a k h = grind (arith, nat_tests)

pub hit_yes : (a k : ℕ) → a ≡ k → one_if (a == k) ≡ 1
hit_yes a k h = grind (arith, nat_tests)

pub hits-cons : {X : Type 0} (key : X → ℕ) (k : ℕ) (x : X) (xs : List X)
    → hits key k (x ∷ xs) ≡ one_if (key x == k) + hits key k xs
hits-cons key k x xs = sum_by-cons (λ y. one_if (key y == k)) x xs

-- only the keys matter
pub hits_map : {X : Type 0} (key : X → ℕ) (k : ℕ) (xs : List X) → hits key k xs ≡ hits (λ (n : ℕ). n) k (map key xs)
hits_map key k [] = refl
hits_map key k (x ∷ xs) =
    omega (arith, hits-cons key k x xs, hits-cons (λ (n : ℕ). n) k (key x) (map key xs), hits_map key k xs)

pub hits_same : {X : Type 0} (key : X → ℕ) (k : ℕ) (xs ys : List X) → map key xs ≡ map key ys → hits key k xs ≡ hits key k ys
hits_same key k xs ys e = hits_map key k xs ∙ (ap (λ (t : List ℕ). hits (λ (n : ℕ). n) k t) e ∙ sym (hits_map key k ys))

-- a key below all others does not occur
pub hits_none : {X : Type 0} (key : X → ℕ) (k : ℕ) (xs : List X) → All (λ x. k < key x) xs → hits key k xs ≡ 0
hits_none key k [] a = refl
hits_none {X} key k (x ∷ xs) a =
    let first : k < key x = a 0 x (omega arith) in
    omega (
      arith,
      hits-cons key k x xs,
      hit_no (key x) k (λ e. omega arith),
      hits_none key k xs (All-tail (λ (y : X). k < key y) x xs a),
    )

-- from a place on all keys are above
pub above_rest : {X : Type 0} (key : X → ℕ) (xs : List X) (n k : ℕ) (d : X) → IsNonDecreasingBy key xs
    → (n < length xs → k < key (get_or xs n d)) → All (λ x. k < key x) (drop n xs)
above_rest {X} key xs n k d sorted above = λ j e l.
    let within : n + j < length xs = omega (arith, length-drop n xs) in
    let here : get_or xs n d ≡ get_or xs n e = get_or_default xs n d e (omega arith) in
    let there : get_or (drop n xs) j e ≡ get_or xs (n + j) e = get_or-drop n xs j e in
    omega (arith, sorted n (n + j) e (omega arith) within, above (omega arith), ap key here, ap key there)

pub hits-take-drop : {X : Type 0} (key : X → ℕ) (k : ℕ) (xs : List X) (n : ℕ)
    → hits key k (take n xs) + hits key k (drop n xs) ≡ hits key k xs
hits-take-drop key k xs n = sum_by-take-drop (λ y. one_if (key y == k)) xs n

-- At the first place where two sorted lists differ, the smaller key occurs more often in one, and each smaller one equally
-- often.
pub differ_at : {X : Type 0} (key : X → ℕ) (xs ys : List X) (n : ℕ) (a : X) → IsNonDecreasingBy key xs
    → IsNonDecreasingBy key ys → map key (take n xs) ≡ map key (take n ys) → n < length xs → a ≡ get_or xs n a
    → (n < length ys → key a < key (get_or ys n a))
    → (hits key (key a) xs ≡ hits key (key a) ys → ⊥) × ((k : ℕ) → k < key a → hits key k xs ≡ hits key k ys)
differ_at {X} key xs ys n a s t e l is above = (
  λ same.
      let rest : hits key (key a) (drop n xs) ≡ one_if (key a == key a) + hits key (key a) (drop (n + 1) xs) =
      ap (λ (zs : List X). hits key (key a) zs) (drop_more xs n a l ∙ ap (λ (x : X). x ∷ drop (n + 1) xs) (sym is))
      ∙ hits-cons key (key a) a (drop (n + 1) xs) in
      omega (
        arith,
        same,
        rest,
        hit_yes (key a) (key a) refl,
        hits-take-drop key (key a) xs n,
        hits-take-drop key (key a) ys n,
        hits_same key (key a) (take n xs) (take n ys) e,
        hits_none key (key a) (drop n ys) (above_rest key ys n (key a) a t above),
      ),
  λ k below.
      omega (
        arith,
        hits-take-drop key k xs n,
        hits-take-drop key k ys n,
        hits_same key k (take n xs) (take n ys) e,
        hits_none key k (drop n xs) (above_rest key xs n k a s (λ _. omega (arith, ap key is))),
        hits_none key k (drop n ys) (above_rest key ys n k a t (λ m. omega (arith, above m))),
      ),
)

-- two sorted lists in which each key occurs equally often have the same keys
pub same_keys : {X : Type 0} (key : X → ℕ) (xs ys : List X) → IsNonDecreasingBy key xs → IsNonDecreasingBy key ys
    → ((k : ℕ) → hits key k xs ≡ hits key k ys) → map key xs ≡ map key ys
same_keys key [] [] s t h = refl
same_keys key [] (y ∷ ys) s t h = absurd (omega (arith, h (key y), hits-cons key (key y) y ys, hit_yes (key y) (key y) refl))
same_keys key (x ∷ xs) [] s t h = absurd (omega (arith, h (key x), hits-cons key (key x) x xs, hit_yes (key x) (key x) refl))
same_keys {X} key (x ∷ xs) (y ∷ ys) s t h =
    let e : key x ≡ key y = both (cases_lt (key x) (key y)) (cases_lt (key y) (key x)) in
    let rest : map key xs ≡ map key ys =
    same_keys key xs ys (λ i j d l m. s (suc i) (suc j) d (omega arith) (omega arith))
    (λ i j d l m. t (suc i) (suc j) d (omega arith) (omega arith))
    (λ k. omega (arith, h k, hits-cons key k x xs, hits-cons key k y ys, ap (λ (n : ℕ). one_if (n == k)) e)) in
    ap (λ (n : ℕ). n ∷ map key xs) e ∙ ap (λ (t : List ℕ). key y ∷ t) rest
  where
    none : (k : ℕ) (z : X) (zs : List X) → IsNonDecreasingBy key (z ∷ zs) → k < key z → hits key k (z ∷ zs) ≡ 0
    none k z zs u l = hits_none key k (z ∷ zs) (λ j d m. omega (arith, u 0 j d (omega arith) m))

    both : (key x < key y) ⊎ (key y ≤ key x) → (key y < key x) ⊎ (key x ≤ key y) → key x ≡ key y
    both (inl l) _ =
        absurd (omega (arith, h (key x), none (key x) y ys t l, hits-cons key (key x) x xs, hit_yes (key x) (key x) refl))
    both (inr l) (inl m) =
        absurd (omega (arith, h (key y), none (key y) x xs s m, hits-cons key (key y) y ys, hit_yes (key y) (key y) refl))
    both (inr l) (inr m) = omega arith
