use Rattle.recon_laws.proofs.DoneChecks.{had_no_failure}
use Rattle.recon_laws.proofs.a_run_that_is_done_had_no_failure.Goals as goal

pub returns : goal.returns
returns c = had_no_failure
