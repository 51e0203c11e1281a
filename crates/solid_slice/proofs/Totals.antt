-- How many steps the loops have together: no more than there are faces, since each face stands in them once at most.
use Rattle.std.proofs.Common.{ℕ, zero, suc, ◌≡◌, ◌+◌, ◌<◌, ◌≤◌, ◌==◌, refl, arith, Bool, true, false, not, List, [], ◌∷◌}
use Rattle.std.proofs.Common.{length, get_or, map, filter, ℤ}
use Rattle.std.specs.List.{All, count_by, sum_by, concat}
use Rattle.std.proofs.lemmas.Bool.{eqb-false, not-true}
use Rattle.std.proofs.lemmas.List.{length-append, length-map}
use Rattle.std.proofs.lemmas.List.Elements.{All-filter, filter_passes}
use Rattle.std.proofs.lemmas.List.Sums.{sum_by-cons, length-filter, get_or-le-sum_by}
use Rattle.geo_sign.specs.Point.{Point}
use Rattle.solid_slice.specs.Cuts.{is_cut_at}
use Rattle.solid_slice.specs.Loops.{the_face, AreLoops}
use Rattle.solid_slice.specs.declared.step.Step.{Step}
use Rattle.mesh_edges.proofs.Counts.{one_if, hit_yes}
use Rattle.solid_slice.proofs.Crossed.{cut_within}

count-cons : (p : ℕ → Bool) (x : ℕ) (xs : List ℕ) → count_by p (x ∷ xs) ≡ one_if (p x) + count_by p xs
count-cons p x xs = sum_by-cons (λ y. one_if (p y)) x xs

-- those that pass and those that fail
count_both : (p : ℕ → Bool) (xs : List ℕ) → count_by p xs + count_by (λ x. not (p x)) xs ≡ length xs
count_both p [] = refl
count_both p (x ∷ xs) = omega (arith, count-cons p x xs, count-cons (λ y. not (p y)) x xs, count_both p xs, one (p x))
  where
    one : (b : Bool) → one_if b + one_if (not b) ≡ 1
    one true = omega arith
    one false = omega arith

-- a filter leaves no more
count_kept : (p q : ℕ → Bool) (xs : List ℕ) → count_by p (filter q xs) ≤ count_by p xs
count_kept p q [] = omega arith
count_kept p q (x ∷ xs) = grind (arith, count-cons, count_kept p q xs)

-- numbers below n, none of them twice, are at most n
few_numbers : (n : ℕ) (xs : List ℕ) → ((f : ℕ) → count_by (λ g. g == f) xs ≤ 1) → All (λ f. f < n) xs → length xs ≤ n
few_numbers zero [] once below = omega arith
few_numbers zero (x ∷ xs) once below = absurd (omega (arith, below 0 x (omega arith)))
few_numbers (suc n) xs once below =
    let p = λ (g : ℕ). g == n in
    let q = λ (g : ℕ). not (g == n) in
    let rest = few_numbers n (filter q xs) (λ f. omega (arith, once f, count_kept (λ g. g == f) q xs))
    (λ k d l.
    let small = All-filter q (λ (f : ℕ). f < suc n) xs below k d l in
    let other = eqb-false (get_or (filter q xs) k d) n (not-true (get_or (filter q xs) k d == n) (filter_passes q xs k d l)) in
    omega (arith, small, other)) in
    omega (arith, rest, once n, count_both p xs, length-filter q xs)

length_concat : (xss : List (List ℕ)) → length (concat xss) ≡ sum_by (λ xs. length xs) xss
length_concat [] = refl
length_concat (xs ∷ xss) =
    omega (arith, length-append xs (concat xss), sum_by-cons (λ (ys : List ℕ). length ys) xs xss, length_concat xss)

lengths_same : (rings : List (List Step))
    → sum_by (λ ring. length ring) (map (map the_face) rings) ≡ sum_by (λ ring. length ring) rings
lengths_same [] = refl
lengths_same (ring ∷ rings) =
    omega (
      arith,
      sum_by-cons (λ (ys : List ℕ). length ys) (map the_face ring) (map (map the_face) rings),
      sum_by-cons (λ (ys : List Step). length ys) ring rings,
      lengths_same rings,
      length-map ring the_face,
    )

-- each face stands in the loops once at most
pub few_steps : (points : List Point) (faces : List (List ℕ)) (h : ℤ) (rings : List (List Step))
    → AreLoops points faces h (map (map the_face) rings) → sum_by (λ ring. length ring) rings ≤ length faces
few_steps points faces h rings loops =
    let all = concat (map (map the_face) rings) in
    let fits = few_numbers (length faces) all (λ f. omega (arith, loops.once f, one (is_cut_at points faces h f)))
    (λ k d l.
    let f = get_or all k d in
    let here : 1 ≤ count_by (λ g. g == f) all =
    omega (arith, get_or-le-sum_by (λ g. one_if (g == f)) all k d l, hit_yes f f refl) in
    cut_within points faces h f (cut_from (is_cut_at points faces h f) (omega (arith, here, loops.once f)))) in
    omega (arith, fits, length_concat (map (map the_face) rings), lengths_same rings)
  where
    one : (b : Bool) → one_if b ≤ 1
    one true = omega arith
    one false = omega arith

    cut_from : (b : Bool) → 1 ≤ one_if b → b ≡ true
    cut_from true l = refl
    cut_from false l = absurd (omega arith)
