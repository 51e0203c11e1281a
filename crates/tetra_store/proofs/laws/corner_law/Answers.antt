use Rattle.tetra_store.proofs.BoxCells.{corner_law}
use Rattle.tetra_store.proofs.laws.corner_law.Goals as goal

pub returns : goal.returns
returns c = corner_law
