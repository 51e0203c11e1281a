-- The least cost is at most the vote times the weights of all sights, where each sight has at most one cell behind it. To have
-- all cells outside is admissible and costs their sinks alone. A sink is a vote for each unit of weight of the sights that the
-- cell is behind, so in all sinks together each sight's weight stands as often as it has a cell behind it, which is at most
-- once.
use Rattle.std.proofs.Common.{ℕ, suc, ◌+◌, ◌*◌, ◌≤◌, ◌≡◌, refl, arith, Bool, false, cond, List, [], ◌∷◌, Contains, count_by}
use Rattle.std.specs.List.{sum_by}
use Rattle.std.proofs.Math.Nat.{mul-add, mul-le-mul_left}
use Rattle.std.proofs.lemmas.List.Sums.{sum_by-cons, sum_by-le}
use Rattle.flow_net.specs.declared.votes.Sight.{Sight}
use Rattle.flow_net.specs.declared.votes.TheConstants.{SIGHT_WEIGHT_LIMIT}
use Rattle.flow_net.specs.Networks.{arc_cost}
use Rattle.flow_net.specs.Weights.{IsSightList, weight_where}
use Rattle.flow_net.proofs.WeightLemmas.{weight_where-cons}
use Rattle.geo_sign.specs.Cells.{written}
use Rattle.geo_sign.specs.Sights.{is_behind}
use Rattle.visibility.specs.Scenes.{Scene, scanner_point}
use Rattle.visibility.specs.Complexes.{Complex}
use Rattle.visibility.specs.Votes.{sights_before, sink}
use Rattle.visibility.specs.Cuts.{network_over, cost, IsAdmissible}
use Rattle.visibility.specs.Laws.{HasOneBehind, LeastCostIsSmall}
use Rattle.visibility.proofs.Amounts.{few_votes}

-- ---- sums
sum_plus : {X : Type 0} (f g h : X → ℕ) (xs : List X) → ((x : X) → h x ≡ f x + g x) → sum_by h xs ≡ sum_by f xs + sum_by g xs
sum_plus f g h [] e = refl
sum_plus f g h (x ∷ xs) e = grind (arith, sum_by-cons, sum_plus f g h xs e, e x)

times_sum : {X : Type 0} (n : ℕ) (f : X → ℕ) (xs : List X) → sum_by (λ x. n * f x) xs ≡ n * sum_by f xs
times_sum n f [] = grind arith
times_sum n f (x ∷ xs) =
    grind (arith, times_sum n f xs, mul-add n (f x) (sum_by f xs), sum_by-cons f x xs, sum_by-cons (λ y. n * f y) x xs)

-- an amount for each that passes
amount_times : {X : Type 0} (p : X → Bool) (amount : ℕ) (xs : List X)
    → sum_by (λ x. cond (p x) amount 0) xs ≡ amount * count_by p xs
amount_times p amount [] = grind arith
amount_times p amount (x ∷ xs) =
    grind (
      arith,
      amount_times p amount xs,
      mul-add amount (cond (p x) 1 0) (count_by p xs),
      sum_by-cons (λ y. cond (p y) 1 0) x xs,
      sum_by-cons (λ y. cond (p y) amount 0) x xs,
    )

at_most_once : (amount n : ℕ) → n ≤ 1 → amount * n ≤ amount
at_most_once amount n h = let m : amount * n ≤ amount * 1 = mul-le-mul_left amount h in omega (arith, m)

-- where each y passes for at most one x, the weights for all x together are no more than all weights
few_pairs : {X : Type 0} (p : X → Sight → Bool) (xs : List X) (ys : List Sight)
    → ((y : Sight) → Contains ys y → count_by (λ x. p x y) xs ≤ 1)
    → sum_by (λ x. weight_where (p x) ys) xs ≤ sum_by (λ y. y.weight) ys
few_pairs p xs [] h = omega (arith, sum_by-le (λ x. 0) 0 xs (λ k d l. omega arith))
few_pairs {X = X} p xs (y ∷ ys) h =
    let n = few_pairs p xs ys (λ z c. h z (let l = c.1 in (suc c.0, omega (arith, l), c.2))) in
    let s : sum_by (λ x. weight_where (p x) (y ∷ ys)) xs
    ≡ sum_by (λ x. cond (p x y) y.weight 0) xs + sum_by (λ x. weight_where (p x) ys) xs =
    grind (arith, sum_plus, weight_where-cons) in
    let o = at_most_once y.weight (count_by (λ x. p x y) xs) (h y (0, omega arith, refl)) in
    omega (arith, n, s, o, amount_times (λ x. p x y) y.weight xs, sum_by-cons (λ (z : Sight). z.weight) y ys)

all_weights : (sights : List Sight) → IsSightList sights → sum_by (λ sight. sight.weight) sights ≤ 2139095040
all_weights sights h =
    grind (arith, sum_by-le (λ (sight : Sight). sight.weight) SIGHT_WEIGHT_LIMIT sights (λ k d l. (h.weighed k d l).at_most))

-- ---- all cells outside
all_outside : (s : Scene) (complex : Complex) → HasOneBehind s complex.cells → IsSightList s.sights
    → cost s complex (λ _. false) ≤ 140185593446400
unfolding sink sights_before
all_outside s complex one few =
    let facets = sum_by-le (arc_cost (network_over s complex) (λ _. false)) 0 complex.facets (λ k d l. omega arith) in
    let cells = times_sum s.settings.vote (sights_before s) complex.cells in
    let pairs : sum_by (sights_before s) complex.cells ≤ sum_by (λ (sight : Sight). sight.weight) s.sights =
    few_pairs behind complex.cells s.sights one in
    let votes =
    few_votes s.settings.vote (sum_by (sights_before s) complex.cells) s.settings.vote_at_most
    (omega (arith, pairs, all_weights s.sights few)) in
    omega (arith, facets, cells, votes)
  where
    behind : List ℕ → Sight → Bool
    behind row sight = is_behind s.vertices sight.vertex (scanner_point s.scanners sight.scanner) (written s.vertices row)

pub least_cost_is_small : LeastCostIsSmall
least_cost_is_small = λ s complex inside one few h.
    let none : IsAdmissible s complex (λ _. false) = record { none_fixed = λ row has f. refl } in
    omega (arith, h.least (λ _. false) none, all_outside s complex one few)
