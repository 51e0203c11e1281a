-- Sums of weights: as sums over all sights, by one sight more, and how large they get.
use Rattle.std.proofs.Common.{ℕ, ◌+◌, ◌*◌, ◌≤◌, ◌≡◌, refl, arith, Bool, true, false, cond, List, [], ◌∷◌}
use Rattle.std.proofs.Common.{length, take, filter, All}
use Rattle.std.specs.List.{sum_by}
use Rattle.std.proofs.lemmas.List.Sums.{sum_by-cons, sum_by-le, sum_by-take-le}
use Rattle.flow_net.specs.declared.votes.Sight.{Sight}
use Rattle.flow_net.specs.declared.votes.TheConstants.{SIGHT_WEIGHT_LIMIT}
use Rattle.flow_net.specs.Weights.{IsWeighed, IsSightList, weight_where}

-- what a sight adds where it passes
abbrev pub added_where : (Sight → Bool) → Sight → ℕ
added_where test sight = cond (test sight) sight.weight 0

pub weight_where-cons : (test : Sight → Bool) (sight : Sight) (sights : List Sight)
    → weight_where test (sight ∷ sights) ≡ added_where test sight + weight_where test sights
weight_where-cons test sight sights = by (test sight)
  where
    by : (passes : Bool)
        → sum_by (λ (x : Sight). x.weight) (cond passes (sight ∷ filter test sights) (filter test sights))
        ≡ cond passes sight.weight 0 + weight_where test sights
    by true = sum_by-cons (λ (x : Sight). x.weight) sight (filter test sights)
    by false = omega arith

-- each sight adds its weight or nothing
pub weight_is_sum : (test : Sight → Bool) (sights : List Sight) → weight_where test sights ≡ sum_by (added_where test) sights
weight_is_sum test [] = refl
weight_is_sum test (sight ∷ sights) =
    grind (arith, weight_where-cons test sight sights, weight_is_sum test sights, sum_by-cons (added_where test) sight sights)

added_where_small : (test : Sight → Bool) (sight : Sight) → IsWeighed sight → added_where test sight ≤ SIGHT_WEIGHT_LIMIT
added_where_small test sight h = grind arith

-- at most 255 a sight
pub weight_where-le : (test : Sight → Bool) (sights : List Sight) → All IsWeighed sights
    → weight_where test sights ≤ length sights * 255
weight_where-le test sights h = grind (arith, sum_by-le, added_where_small, weight_is_sum)

-- which is below 2 ^ 31
pub weight_where_small : (test : Sight → Bool) (sights : List Sight) → IsSightList sights
    → weight_where test sights ≤ 2139095040
weight_where_small test sights h = let n = weight_where-le test sights h.weighed in omega (arith, n, h.few)

-- nor do the first of them weigh more
pub weight_so_far : (test : Sight → Bool) (sights : List Sight) (i : ℕ) → IsSightList sights
    → weight_where test (take i sights) ≤ 2139095040
weight_so_far test sights i h =
    omega (
      arith,
      weight_is_sum test (take i sights),
      sum_by-take-le (added_where test) sights i,
      weight_is_sum test sights,
      weight_where_small test sights h,
    )
