-- Each capacity and each sink fits.
use Rattle.std.proofs.Common.{ℕ, ◌*◌, ◌<◌, ◌≤◌, ◌^◌, arith, List}
use Rattle.std.proofs.Math.Nat.{mul-le-mul}
use Rattle.flow_net.specs.declared.votes.TheConstants.{WEIGHT_LIMIT}
use Rattle.flow_net.specs.Weights.{IsSightList}
use Rattle.flow_net.proofs.WeightLemmas.{weight_where_small}
use Rattle.geo_sign.specs.Tetrahedron.{DirectedFacet}
use Rattle.visibility.specs.Scenes.{Scene}
use Rattle.visibility.specs.Votes.{crossings, capacity, sights_before, sink}

-- at most 65,535 votes for each of at most 8,388,608 sights of a weight of at most 255
pub few_votes : (vote weight : ℕ) → vote ≤ WEIGHT_LIMIT → weight ≤ 2139095040 → vote * weight ≤ 140185593446400
few_votes vote weight h l = let m : vote * weight ≤ WEIGHT_LIMIT * 2139095040 = mul-le-mul h l in omega (arith, m)

pub crossings_small : (s : Scene) (f : DirectedFacet) → IsSightList s.sights → crossings s f ≤ 2139095040
unfolding crossings
crossings_small s f few = grind (arith, weight_where_small)

pub sights_before_small : (s : Scene) (row : List ℕ) → IsSightList s.sights → sights_before s row ≤ 2139095040
unfolding sights_before
sights_before_small s row few = grind (arith, weight_where_small)

pub capacity_fits : (s : Scene) (f : DirectedFacet) → IsSightList s.sights → capacity s f < 2 ^ 48
capacity_fits s f few = grind (arith, few_votes, crossings_small)

pub sink_fits : (s : Scene) (row : List ℕ) → IsSightList s.sights → sink s row < 2 ^ 48
unfolding sink
sink_fits s row few = grind (arith, few_votes, sights_before_small)
