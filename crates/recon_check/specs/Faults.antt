-- What is known of the labels and the flow that a certificate states, over cells and directed facets, before each fault. What
-- has no row is outside, or 0. The faults are those of any network (Faults of flow_net).
--
--   IsWithinFacets s complex claim         no cell fixed outside is inside, and no flow over a facet exceeds its capacity
--   IsWithinLimits s complex claim         nor does a flow at a sink exceed its limit
--   IsCertified s complex claim            admissible labels whose cost is the value of a valid flow
--   IsBest s complex claim                 and they are the minimum cut with the smallest inside
use Rattle.std.specs.Prelude.{◌≡◌}
use Rattle.certificate.specs.Certificates.{Claim}
use Rattle.flow_net.specs.Faults.{AreWithinArcs, AreWithinLimits}
use Rattle.solution.specs.Solutions.{flow_on, sink_at}
use Rattle.visibility.specs.Scenes.{Scene}
use Rattle.visibility.specs.Complexes.{Complex}
use Rattle.visibility.specs.Cuts.{network_over, cost, IsAdmissible, IsLeastInside}
use Rattle.visibility.specs.Flows.{value, IsValidFlow}
use Rattle.recon_check.specs.Claims.{is_inside, AreThere}

-- each row names a cell or facet, no cell fixed outside is inside, and no flow over a facet exceeds its capacity
pub record IsWithinFacets (s : Scene) (complex : Complex) (claim : Claim) : Type 0 where
  pub there : AreThere complex claim
  pub within : AreWithinArcs (network_over s complex) (is_inside claim) (flow_on claim)

-- nor does a flow at a sink exceed its limit
pub record IsWithinLimits (s : Scene) (complex : Complex) (claim : Claim) : Type 0 where
  pub there : AreThere complex claim
  pub within : AreWithinLimits (network_over s complex) (is_inside claim) (flow_on claim) (sink_at claim)

-- each row names a cell or facet, the labels are admissible, the flow is valid, and its value is the cost of the labels
pub record IsCertified (s : Scene) (complex : Complex) (claim : Claim) : Type 0 where
  pub there : AreThere complex claim
  pub admissible : IsAdmissible s complex (is_inside claim)
  pub valid : IsValidFlow s complex (flow_on claim) (sink_at claim)
  pub equal : value s complex (sink_at claim) ≡ cost s complex (is_inside claim)

-- and the labels are the minimum cut with the smallest inside
pub record IsBest (s : Scene) (complex : Complex) (claim : Claim) : Type 0 where
  pub certified : IsCertified s complex claim
  pub least : IsLeastInside s complex (is_inside claim)
