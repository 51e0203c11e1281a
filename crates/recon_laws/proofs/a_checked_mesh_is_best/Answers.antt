use Rattle.recon_laws.proofs.DoneChecks.{done_check_is_best, done_check_of_printed_is_best}
use Rattle.recon_laws.proofs.a_checked_mesh_is_best.Goals as goal

pub returns-clause-any : goal.returns-clause-any
returns-clause-any c = done_check_is_best

pub returns-clause-printed : goal.returns-clause-printed
returns-clause-printed c = done_check_of_printed_is_best
