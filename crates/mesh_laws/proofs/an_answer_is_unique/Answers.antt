use Rattle.mesh_laws.proofs.OneAnswer.{check_answer_is_one, inspect_answer_is_one}
use Rattle.mesh_laws.proofs.an_answer_is_unique.Goals as goal

pub returns-clause-inspect : goal.returns-clause-inspect
returns-clause-inspect c = inspect_answer_is_one

pub returns-clause-check : goal.returns-clause-check
returns-clause-check c = check_answer_is_one
