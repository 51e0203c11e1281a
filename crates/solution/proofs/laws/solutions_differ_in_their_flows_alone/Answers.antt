use Rattle.solution.proofs.Uniqueness.{solution_law}
use Rattle.solution.proofs.laws.solutions_differ_in_their_flows_alone.Goals as goal

pub returns : goal.returns
returns c = solution_law
