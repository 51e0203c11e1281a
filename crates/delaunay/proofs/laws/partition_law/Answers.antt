use Rattle.delaunay.proofs.Numbered.{numbered_partition}
use Rattle.delaunay.proofs.laws.partition_law.Goals as goal

pub returns : goal.returns
returns c = numbered_partition
