-- Lists whose elements have rising numbers. Rising numbers are apart, and exchanges of elements keep that, so a sorted list has
-- each once.
use Rattle.std.proofs.Common.{ℕ, zero, suc, ◌+◌, ◌<◌, ◌≤◌, ◌≡◌, ◌≢◌, refl, sym, ap, ◌∙◌, ◌⊎◌, inl, inr, ⊎_elim, arith, List, []}
use Rattle.std.proofs.Common.{◌∷◌, ◌++◌, length, get_or}
use Rattle.std.specs.List.{swap}
use Rattle.std.specs.List.Sorted.{IsPermutation}
use Rattle.std.proofs.lemmas.Bool.{cases_eq}
use Rattle.std.proofs.lemmas.List.Edits.{Swapped, swapped_from_swap}
use Rattle.std.proofs.lemmas.List.Sorted.{IsPermutation-keeps, IsPermutation-swap, length_permutation}
use Rattle.cell_net.specs.Parts.{AreDistinctBy}

-- the numbers rise, from n on and below m
abbrev pub Rises : {X : Type 0} → (X → ℕ) → ℕ → List X → ℕ → Type 0
Rises f n [] m = n ≤ m
Rises f n (x ∷ xs) m = (n ≤ f x) × Rises f (f x + 1) xs m

pub rises_from : {X : Type 0} (f : X → ℕ) (l n : ℕ) (xs : List X) (m : ℕ) → l ≤ n → Rises f n xs m → Rises f l xs m
rises_from f l n [] m h r = omega (arith, h, r)
rises_from f l n (x ∷ xs) m h r = let a = r.0 in (omega (arith, h, a), r.1)

pub rises_append : {X : Type 0} (f : X → ℕ) (n : ℕ) (xs : List X) (m : ℕ) (ys : List X) (p : ℕ) → Rises f n xs m
    → Rises f m ys p
    → Rises f n (xs ++ ys) p
rises_append f n [] m ys p r s = rises_from f n m ys p r s
rises_append f n (x ∷ xs) m ys p r s = (r.0, rises_append f (f x + 1) xs m ys p r.1 s)

above : {X : Type 0} (f : X → ℕ) (n : ℕ) (xs : List X) (m : ℕ) → Rises f n xs m → (i : ℕ) (d : X) → i < length xs
    → n ≤ f (get_or xs i d)
above f n [] m r i d l = absurd (omega (arith, l))
above f n (x ∷ xs) m r zero d l = r.0
above f n (x ∷ xs) m r (suc i) d l = grind (arith, above f (f x + 1) xs m r.1 i d (omega (arith, l)))

rising : {X : Type 0} (f : X → ℕ) (n : ℕ) (xs : List X) (m : ℕ) → Rises f n xs m → (i j : ℕ) (d : X) → i < j → j < length xs
    → f (get_or xs i d) < f (get_or xs j d)
rising f n [] m r i j d h l = absurd (omega (arith, l))
rising f n (x ∷ xs) m r i zero d h l = absurd (omega (arith, h))
rising f n (x ∷ xs) m r zero (suc j) d h l = let b = above f (f x + 1) xs m r.1 j d (omega (arith, l)) in omega (arith, b)
rising f n (x ∷ xs) m r (suc i) (suc j) d h l = rising f (f x + 1) xs m r.1 i j d (omega (arith, h)) (omega (arith, l))

pub rises_apart : {X : Type 0} (f : X → ℕ) (n : ℕ) (xs : List X) (m : ℕ) → Rises f n xs m → AreDistinctBy f xs
rises_apart f n xs m r i j d li lj e =
    let a : ¬ (i < j) = λ l. (let b = rising f n xs m r i j d l lj in absurd (omega (arith, b, e))) in
    let c : ¬ (j < i) = λ l. (let b = rising f n xs m r j i d l li in absurd (omega (arith, b, e))) in
    omega (arith, a, c)

-- ---- an exchange keeps numbers apart
IsFrom : (a b i s : ℕ) → Type 0
IsFrom a b i s = ((i ≡ a) × (s ≡ b)) ⊎ (((i ≡ b) × (s ≡ a)) ⊎ ((i ≢ a) × (i ≢ b) × (s ≡ i)))

record IsSource {X : Type 0} (xs ys : List X) (a b : ℕ) (d : X) (i : ℕ) : Type 0 where
  source : ℕ
  is : get_or ys i d ≡ get_or xs source d
  from : IsFrom a b i source

source_of : {X : Type 0} (xs ys : List X) (a b : ℕ) (d : X) → Swapped (λ i. get_or xs i d) (λ i. get_or ys i d) a b → (i : ℕ)
    → IsSource xs ys a b d i
unfolding IsFrom
source_of xs ys a b d s i =
    ⊎_elim (λ (e : i ≡ a).
    let r : IsSource xs ys a b d i = record { source = b; is = ap (λ (n : ℕ). get_or ys n d) e ∙ s.0; from = inl (e, refl) } in
    r)
    (λ (n : i ≢ a). ⊎_elim
    (λ (e : i ≡ b).
    let r : IsSource xs ys a b d i =
    record { source = a; is = ap (λ (n : ℕ). get_or ys n d) e ∙ s.1; from = inr (inl (e, refl)) } in
    r)
    (λ (m : i ≢ b). let r : IsSource xs ys a b d i = record { source = i; is = s.2 i n m; from = inr (inr (n, m, refl)) } in r)
    (cases_eq i b))
    (cases_eq i a)

source_below : (a b i s n : ℕ) → IsFrom a b i s → a < n → b < n → i < n → s < n
unfolding IsFrom
source_below a b i s n h la lb li = grind arith

sources : (a b i s j t : ℕ) → IsFrom a b i s → IsFrom a b j t → s ≡ t → i ≡ j
unfolding IsFrom
sources a b i s j t h e k = grind arith

apart_swapped : {X : Type 0} (f : X → ℕ) (xs : List X) (a b : ℕ) → a < length xs → b < length xs → AreDistinctBy f xs
    → AreDistinctBy f (swap xs a b)
apart_swapped f xs a b la lb h i j d li lj e =
    let ys = swap xs a b in
    let n : length ys ≡ length xs = length_permutation xs ys (IsPermutation-swap xs ys a b la lb refl) in
    let s = swapped_from_swap xs ys a b d la lb refl in
    let p = source_of xs ys a b d s i in
    let q = source_of xs ys a b d s j in
    sources a b i p.source j q.source p.from q.from
    (h p.source q.source d (source_below a b i p.source (length xs) p.from la lb (omega (arith, li, n)))
    (source_below a b j q.source (length xs) q.from la lb (omega (arith, lj, n))) (sym (ap f p.is) ∙ e ∙ ap f q.is))

pub apart_permuted : {X : Type 0} (f : X → ℕ) (xs ys : List X) → IsPermutation xs ys → AreDistinctBy f xs → AreDistinctBy f ys
apart_permuted f xs ys p h = IsPermutation-keeps xs (AreDistinctBy f) h (λ l i j li lj k. apart_swapped f l i j li lj k) ys p
