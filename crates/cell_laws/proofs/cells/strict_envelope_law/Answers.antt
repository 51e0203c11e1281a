use Rattle.cell_laws.proofs.StrictEnvelope.{strict_envelope_law}
use Rattle.cell_laws.proofs.cells.strict_envelope_law.Goals as goal

pub returns : goal.returns
returns c = strict_envelope_law
