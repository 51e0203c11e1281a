use Rattle.flow_check.proofs.Meets.{least_inside_exists, least_inside_unique}
use Rattle.flow_check.proofs.laws.exactly_one_is_least_inside.Goals as goal

pub returns-clause-exists : goal.returns-clause-exists
returns-clause-exists c = least_inside_exists

pub returns-clause-unique : goal.returns-clause-unique
returns-clause-unique c = least_inside_unique
