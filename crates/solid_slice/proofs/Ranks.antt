-- Which place an element has among those that pass a test.
use Rattle.std.proofs.Common.{ℕ, zero, suc, ◌≡◌, ◌+◌, ◌-◌, ◌<◌, ◌≤◌, ◌⊎◌, refl, ap, sym, ◌∙◌, arith, add-one, Bool, true, false}
use Rattle.std.proofs.Common.{cond, List, [], ◌∷◌, ◌++◌, length, get_or, take, filter, inl, inr, length-append}
use Rattle.std.specs.List.{count_by}
use Rattle.std.proofs.lemmas.Bool.{cases_lt}
use Rattle.std.proofs.lemmas.List.{get_or_append_left, get_or-append_right}
use Rattle.std.proofs.lemmas.List.Elements.{filter-append}
use Rattle.std.proofs.lemmas.List.Sums.{sum_by-cons, sum_by_push, sum_by_more, length-filter}
use Rattle.mesh.specs.Meshes.{below}
use Rattle.mesh_edges.specs.Edges.{face_at}
use Rattle.mesh_edges.proofs.Counts.{one_if}

-- its place is how many before it pass
pub in_filter : {X : Type 0} (p : X → Bool) (xs : List X) (i : ℕ) (d : X) → i < length xs → p (get_or xs i d) ≡ true
    → (count_by p (take i xs) < length (filter p xs)) × (get_or (filter p xs) (count_by p (take i xs)) d ≡ get_or xs i d)
in_filter p [] i d l t = absurd (omega arith)
in_filter {X} p (x ∷ xs) zero d l t = grind arith
in_filter {X} p (x ∷ xs) (suc i) d l t = by (in_filter p xs i d (omega arith) t) (p x) refl
  where
    by : (count_by p (take i xs) < length (filter p xs)) × (get_or (filter p xs) (count_by p (take i xs)) d ≡ get_or xs i d)
        → (b : Bool) → p x ≡ b
        → (count_by p (x ∷ take i xs) < length (filter p (x ∷ xs)))
        × (get_or (filter p (x ∷ xs)) (count_by p (x ∷ take i xs)) d ≡ get_or xs i d)
    by ih true t =
        let e : filter p (x ∷ xs) ≡ x ∷ filter p xs = ap (λ (b : Bool). cond b (x ∷ filter p xs) (filter p xs)) t in
        let n : count_by p (x ∷ take i xs) ≡ suc (count_by p (take i xs)) =
        omega (arith, sum_by-cons (λ y. one_if (p y)) x (take i xs), ap one_if t) in (
          omega (arith, n, ih.0, ap (λ (zs : List X). length zs) e),
          ap (λ (zs : List X). get_or zs (count_by p (x ∷ take i xs)) d) e
              ∙ (ap (λ (m : ℕ). get_or (x ∷ filter p xs) m d) n ∙ ih.1),
        )
    by ih false t =
        let e : filter p (x ∷ xs) ≡ filter p xs = ap (λ (b : Bool). cond b (x ∷ filter p xs) (filter p xs)) t in
        let n : count_by p (x ∷ take i xs) ≡ count_by p (take i xs) =
        omega (arith, sum_by-cons (λ y. one_if (p y)) x (take i xs), ap one_if t) in (
          omega (arith, n, ih.0, ap (λ (zs : List X). length zs) e),
          ap (λ (zs : List X). get_or zs (count_by p (x ∷ take i xs)) d) e
              ∙ (ap (λ (m : ℕ). get_or (filter p xs) m d) n ∙ ih.1),
        )

-- an element that passed stands in the list
pub from_filter : {X : Type 0} (p : X → Bool) (xs : List X) (j : ℕ) (d : X) → j < length (filter p xs)
    → (i : ℕ) × (i < length xs) × (get_or xs i d ≡ get_or (filter p xs) j d)
from_filter p [] j d l = absurd (omega arith)
from_filter {X} p (x ∷ xs) j d l = by (λ i m. from_filter p xs i d m) (p x) refl j l
  where
    by : ((j : ℕ) → j < length (filter p xs) → (i : ℕ) × (i < length xs) × (get_or xs i d ≡ get_or (filter p xs) j d))
        → (b : Bool) → p x ≡ b → (j : ℕ) → j < length (filter p (x ∷ xs))
        → (i : ℕ) × (i < length (x ∷ xs)) × (get_or (x ∷ xs) i d ≡ get_or (filter p (x ∷ xs)) j d)
    by rest false t j l =
        let e : filter p (x ∷ xs) ≡ filter p xs = ap (λ (b : Bool). cond b (x ∷ filter p xs) (filter p xs)) t in
        let ih = rest j (omega (arith, ap (λ (zs : List X). length zs) e)) in
        (suc ih.0, omega (arith, ih.1), ih.2 ∙ ap (λ (zs : List X). get_or zs j d) (sym e))
    by rest true t zero l =
        let e : filter p (x ∷ xs) ≡ x ∷ filter p xs = ap (λ (b : Bool). cond b (x ∷ filter p xs) (filter p xs)) t in
        (zero, omega arith, ap (λ (zs : List X). get_or zs 0 d) (sym e))
    by rest true t (suc j) l =
        let e : filter p (x ∷ xs) ≡ x ∷ filter p xs = ap (λ (b : Bool). cond b (x ∷ filter p xs) (filter p xs)) t in
        let ih = rest j (omega (arith, ap (λ (zs : List X). length zs) e)) in
        (suc ih.0, omega (arith, ih.1), ih.2 ∙ ap (λ (zs : List X). get_or zs (suc j) d) (sym e))

abbrev IsRanked : (ℕ → Bool) → (n j f : ℕ) → Type 0
IsRanked q n j f = (f < suc n) × (q f ≡ true) × (count_by q (below f) ≡ j)

-- of the numbers below n that pass, the one at place j has j before it that pass
pub rank_below : (q : ℕ → Bool) (n j : ℕ) → j < length (filter q (below n))
    → (get_or (filter q (below n)) j 0 < n) × (q (get_or (filter q (below n)) j 0) ≡ true)
    × (count_by q (below (get_or (filter q (below n)) j 0)) ≡ j)
rank_below q zero j l = absurd (omega arith)
rank_below q (suc n) j l = by (λ m. rank_below q n j m) (cases_lt j (length (filter q (below n)))) (q n) refl
  where
    at : (g : ℕ) → get_or (filter q (below n ++ n ∷ [])) j 0 ≡ g → g < suc n → q g ≡ true → count_by q (below g) ≡ j
        → IsRanked q n j (get_or (filter q (below n ++ n ∷ [])) j 0)
    at g e a b c = (omega arith, ap q e ∙ b, ap (λ (w : ℕ). count_by q (below w)) e ∙ c)

    whole : filter q (below n ++ n ∷ []) ≡ filter q (below n) ++ cond (q n) (n ∷ []) []
    whole = filter-append q (below n) (n ∷ [])

    by : (j < length (filter q (below n))
        → (get_or (filter q (below n)) j 0 < n) × (q (get_or (filter q (below n)) j 0) ≡ true)
        × (count_by q (below (get_or (filter q (below n)) j 0)) ≡ j))
        → (j < length (filter q (below n))) ⊎ (length (filter q (below n)) ≤ j) → (b : Bool) → q n ≡ b
        → IsRanked q n j (get_or (filter q (below n ++ n ∷ [])) j 0)
    by before (inl m) b t =
        let ih = before m in
        at (get_or (filter q (below n)) j 0)
        (ap (λ (zs : List ℕ). get_or zs j 0) whole ∙ get_or_append_left (filter q (below n)) (cond (q n) (n ∷ []) []) 0 j m)
        (omega (arith, ih.0)) ih.1 ih.2
    by before (inr m) true t =
        let e : filter q (below n ++ n ∷ []) ≡ filter q (below n) ++ n ∷ [] =
        whole ∙ ap (λ (b : Bool). filter q (below n) ++ cond b (n ∷ []) []) t in
        let last : j ≡ length (filter q (below n)) =
        omega (arith, ap (λ (zs : List ℕ). length zs) e, length-append (filter q (below n)) (n ∷ [])) in
        let none : j - length (filter q (below n)) ≡ 0 = omega arith in
        at n (ap (λ (zs : List ℕ). get_or zs j 0) e
        ∙ (get_or-append_right (filter q (below n)) (n ∷ []) (length (filter q (below n))) j 0 refl m
        ∙ ap (λ (i : ℕ). get_or (n ∷ []) i 0) none)) (omega arith) t (omega (arith, last, length-filter q (below n)))
    by before (inr m) false t =
        let e : filter q (below n ++ n ∷ []) ≡ filter q (below n) ++ [] =
        whole ∙ ap (λ (b : Bool). filter q (below n) ++ cond b (n ∷ []) []) t in
        absurd (omega (arith, ap (λ (zs : List ℕ). length zs) e, length-append (filter q (below n)) []))

-- counted by number, or along the list
pub count_taken : (p : List ℕ → Bool) (faces : List (List ℕ)) (f : ℕ) → f ≤ length faces
    → count_by (λ k. p (face_at faces k)) (below f) ≡ count_by p (take f faces)
count_taken p faces zero l = refl
count_taken p faces (suc f) l =
    let more : count_by p (take (suc f) faces) ≡ count_by p (take f faces) + one_if (p (face_at faces f)) =
    ap (λ (n : ℕ). count_by p (take n faces)) (sym (add-one f)) ∙ sum_by_more (λ x. one_if (p x)) faces f [] (omega arith) in
    omega (arith, more, sum_by_push (λ k. one_if (p (face_at faces k))) (below f) f, count_taken p faces f (omega arith))
