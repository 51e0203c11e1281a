use Rattle.solution.proofs.LeastCosts.{least_cost_law}
use Rattle.solution.proofs.laws.least_costs_fit.Goals as goal

pub returns : goal.returns
returns c = least_cost_law
