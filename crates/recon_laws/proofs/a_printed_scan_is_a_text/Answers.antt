use Rattle.recon_laws.proofs.Printed.{text_is_printed}
use Rattle.recon_laws.proofs.a_printed_scan_is_a_text.Goals as goal

pub returns : goal.returns
returns c = text_is_printed
