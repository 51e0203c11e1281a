use Rattle.recon_cmd.proofs.CheckedLabels.{checked_is_asked, read_off_is_one}
use Rattle.recon_cmd.proofs.laws.labels_are_read_off_a_checked_certificate.Goals as goal

pub returns-clause-asked : goal.returns-clause-asked
returns-clause-asked c = checked_is_asked

pub returns-clause-one : goal.returns-clause-one
returns-clause-one c = read_off_is_one
