use Rattle.mesh_provenance.proofs.FileCodes.{file_code}
use Rattle.mesh_provenance.proofs.laws.file_texts_are_distinct.Goals as goal

pub returns : goal.returns
returns c = file_code
