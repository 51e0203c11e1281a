use Rattle.recon_check.proofs.Uniqueness.{one_answer}
use Rattle.recon_check.proofs.laws.answers_are_unique.Goals as goal

pub returns : goal.returns
returns c = one_answer
