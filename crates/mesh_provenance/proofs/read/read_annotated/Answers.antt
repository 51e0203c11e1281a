use Rattle.mesh_provenance.proofs.FileRefused.{stated_so, first_so}
use Rattle.mesh_provenance.proofs.read.read_annotated.Goals as goal

pub returns-clause-stated : goal.returns-clause-stated
returns-clause-stated c =
    stated_so c.read_file.result c.args.bytes.now c.read_file.ensures.ok c.read_file.ensures.refused

pub returns-clause-first : goal.returns-clause-first
returns-clause-first c =
    first_so c.read_file.result c.args.bytes.now c.read_file.ensures.ok c.read_file.ensures.refused
