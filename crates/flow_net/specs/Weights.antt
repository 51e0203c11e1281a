-- Sights by their weights.
--
--   IsWeighed sight            a sight of a weight from 1 to 255
--   IsSightList sights         at most 8,388,608 such sights
--   weight_where test sights   the sum of the weights of the sights that pass a test. Equal sights count as often as
--                              they occur
use Rattle.std.specs.Prelude.{ℕ, ◌≤◌, Bool, List, length, filter, All}
use Rattle.std.specs.List.{sum_by}
use Rattle.flow_net.specs.declared.votes.Sight.{Sight}
use Rattle.flow_net.specs.declared.votes.TheConstants.{SIGHT_LIMIT, SIGHT_WEIGHT_LIMIT}

-- a weight that a sight may have
pub record IsWeighed (sight : Sight) : Type 0 where
  pub at_least : 1 ≤ sight.weight
  pub at_most : sight.weight ≤ SIGHT_WEIGHT_LIMIT

-- at most 8,388,608 sights, each of such a weight
pub record IsSightList (sights : List Sight) : Type 0 where
  pub few : length sights ≤ SIGHT_LIMIT
  pub weighed : All IsWeighed sights

-- The sum of the weights of the lines of sight that pass a test. A line of sight that occurs twice counts twice.
abbrev pub weight_where : (Sight → Bool) → List Sight → ℕ
weight_where test sights = sum_by (λ sight. sight.weight) (filter test sights)
