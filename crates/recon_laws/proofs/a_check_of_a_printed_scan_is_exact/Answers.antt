use Rattle.recon_laws.proofs.ExactChecks.{printed_check_is_exact}
use Rattle.recon_laws.proofs.a_check_of_a_printed_scan_is_exact.Goals as goal

pub returns : goal.returns
returns c = printed_check_is_exact
