use Rattle.visibility.proofs.Amounts.{capacity_fits, sink_fits}
use Rattle.visibility.proofs.SightCosts.{least_cost_is_small}
use Rattle.visibility.proofs.laws.amounts_fit.Goals as goal

pub returns-clause-capacities : goal.returns-clause-capacities
returns-clause-capacities c = capacity_fits

pub returns-clause-sinks : goal.returns-clause-sinks
returns-clause-sinks c = sink_fits

pub returns-clause-small : goal.returns-clause-small
returns-clause-small c = least_cost_is_small
