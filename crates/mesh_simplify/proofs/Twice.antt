-- What two elements of a list pass is passed twice.
use Rattle.std.proofs.Common.{ℕ, zero, suc, ◌≡◌, ◌+◌, ◌<◌, ◌≤◌, ap, arith, Bool, true, cond, List, [], ◌∷◌, length, get_or}
use Rattle.std.specs.List.{count_by}
use Rattle.std.proofs.lemmas.List.Sums.{sum_by-cons}
use Rattle.mesh_edges.proofs.Counts.{one_if}

-- by one element
once : {A : Type 0} (p : A → Bool) (xs : List A) (d : A) (i : ℕ) → i < length xs → p (get_or xs i d) ≡ true → 1 ≤ count_by p xs
once p [] d i l e = omega arith
once p (x ∷ xs) d zero l e = omega (arith, sum_by-cons (λ y. one_if (p y)) x xs, ap one_if e)
once p (x ∷ xs) d (suc i) l e = omega (arith, sum_by-cons (λ y. one_if (p y)) x xs, once p xs d i (omega arith) e)

pub twice : {A : Type 0} (p : A → Bool) (xs : List A) (d : A) (i j : ℕ) → i < j → j < length xs → p (get_or xs i d) ≡ true
    → p (get_or xs j d) ≡ true
    → 2 ≤ count_by p xs
twice p [] d i j l m e f = omega arith
twice p (x ∷ xs) d i zero l m e f = omega arith
twice p (x ∷ xs) d zero (suc j) l m e f =
    omega (arith, sum_by-cons (λ y. one_if (p y)) x xs, ap one_if e, once p xs d j (omega arith) f)
twice p (x ∷ xs) d (suc i) (suc j) l m e f =
    omega (arith, sum_by-cons (λ y. one_if (p y)) x xs, twice p xs d i j (omega arith) (omega arith) e f)
