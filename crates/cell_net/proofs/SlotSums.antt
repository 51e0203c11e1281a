-- Sums over slots, four arcs to a slot, and the same sums over lists of what stands in them.
use Rattle.std.proofs.Common.{ℕ, zero, suc, ◌≡◌, ◌<◌, ◌≤◌, ◌+◌, ◌-◌, ◌*◌, Option, Some, None, List, [], ◌∷◌, length, get_or}
use Rattle.std.proofs.Common.{map, refl, ap, ◌∙◌, arith}
use Rattle.std.specs.List.{sum_by, flat_map}
use Rattle.std.proofs.lemmas.List.Sums.{sum_by-cons, sum_by-append}
use Rattle.slab.specs.Slab.{entries_from}
use Rattle.flow_net.specs.Sums.{sum_below}
use Rattle.tetra_store.specs.declared.link.Cell.{Cell}

-- the first summand
sum_first : (k : ℕ) (f : ℕ → ℕ) → sum_below (suc k) f ≡ f 0 + sum_below k (λ i. f (suc i))
sum_first zero f = omega arith
sum_first (suc k) f = let before = sum_first k f in omega (arith, before)

-- what is 0 past a bound adds nothing
sum_past : (m d : ℕ) (f : ℕ → ℕ) → ((i : ℕ) → m ≤ i → i < m + d → f i ≡ 0) → sum_below (m + d) f ≡ sum_below m f
sum_past m zero f none = let e : m + 0 ≡ m = omega arith in ap (λ (n : ℕ). sum_below n f) e
sum_past m (suc d) f none =
    let e : m + suc d ≡ suc (m + d) = omega arith in
    let last = none (m + d) (omega arith) (omega arith) in
    let rest = sum_past m d f (λ i low high. none i low (omega arith)) in
    let more : sum_below (suc (m + d)) f ≡ sum_below m f = omega (arith, last, rest) in
    ap (λ (n : ℕ). sum_below n f) e ∙ more

pub sum_longer : (m n : ℕ) (f : ℕ → ℕ) → m ≤ n → ((i : ℕ) → m ≤ i → i < n → f i ≡ 0) → sum_below n f ≡ sum_below m f
sum_longer m n f l none =
    let e : n ≡ m + (n - m) = omega arith in
    ap (λ (k : ℕ). sum_below k f) e ∙ sum_past m (n - m) f (λ i low high. none i low (omega arith))

-- four numbers to each
pub by_fours : (k : ℕ) (f : ℕ → ℕ)
    → sum_below (4 * k) f ≡ sum_below k (λ i. f (4 * i) + f (4 * i + 1) + f (4 * i + 2) + f (4 * i + 3))
by_fours zero f = let e : 4 * 0 ≡ 0 = omega arith in ap (λ (n : ℕ). sum_below n f) e
by_fours (suc k) f =
    let e : 4 * suc k ≡ suc (suc (suc (suc (4 * k)))) = omega arith in
    let before = by_fours k f in
    let one : suc (4 * k) ≡ 4 * k + 1 = omega arith in
    let two : suc (suc (4 * k)) ≡ 4 * k + 2 = omega arith in
    let three : suc (suc (suc (4 * k))) ≡ 4 * k + 3 = omega arith in
    let more : sum_below (suc (suc (suc (suc (4 * k))))) f
    ≡ sum_below k (λ i. f (4 * i) + f (4 * i + 1) + f (4 * i + 2) + f (4 * i + 3)) + (f (4 * k) + f (4 * k + 1) + f (4 * k + 2)
    + f (4 * k + 3)) =
    omega (arith, before, ap f one, ap f two, ap f three) in
    ap (λ (n : ℕ). sum_below n f) e ∙ more

-- over the entries of slots
pub entry_sum : (F : ℕ × Cell → ℕ) (f : ℕ → ℕ) (n : ℕ) (slots : List (Option Cell))
    → ((i : ℕ) (c : Cell) → i < length slots → get_or slots i None ≡ Some c → f i ≡ F (n + i, c))
    → ((i : ℕ) → i < length slots → get_or slots i None ≡ None → f i ≡ 0)
    → sum_by F (entries_from n slots) ≡ sum_below (length slots) f
entry_sum F f n [] some none = refl
entry_sum F f n (None ∷ rest) some none =
    let first = none 0 (omega arith) refl in
    let later =
    entry_sum F (λ i. f (suc i)) (n + 1) rest
    (λ i c l e. let m : n + suc i ≡ n + 1 + i = omega arith in some (suc i) c (omega arith) e ∙ ap (λ (k : ℕ). F (k, c)) m)
    (λ i l e. none (suc i) (omega arith) e) in
    omega (arith, first, later, sum_first (length rest) f)
entry_sum F f n (Some c ∷ rest) some none =
    let here : n + 0 ≡ n = omega arith in
    let first = some 0 c (omega arith) refl ∙ ap (λ (k : ℕ). F (k, c)) here in
    let later =
    entry_sum F (λ i. f (suc i)) (n + 1) rest
    (λ i d l e. let m : n + suc i ≡ n + 1 + i = omega arith in some (suc i) d (omega arith) e ∙ ap (λ (k : ℕ). F (k, d)) m)
    (λ i l e. none (suc i) (omega arith) e) in
    omega (arith, first, later, sum_first (length rest) f, sum_by-cons F (n, c) (entries_from (n + 1) rest))

-- over what a function makes of each
pub map_sum : {X Y : Type 0} (g : Y → ℕ) (f : X → Y) (xs : List X) → sum_by g (map f xs) ≡ sum_by (λ x. g (f x)) xs
map_sum g f [] = refl
map_sum g f (x ∷ xs) =
    let later = map_sum g f xs in
    omega (arith, later, sum_by-cons g (f x) (map f xs), sum_by-cons (λ y. g (f y)) x xs)

pub flat_sum : {X Y : Type 0} (g : Y → ℕ) (f : X → List Y) (xs : List X)
    → sum_by g (flat_map f xs) ≡ sum_by (λ x. sum_by g (f x)) xs
flat_sum g f [] = refl
flat_sum g f (x ∷ xs) =
    let later = flat_sum g f xs in
    omega (arith, later, sum_by-append g (f x) (flat_map f xs), sum_by-cons (λ y. sum_by g (f y)) x xs)
