use Rattle.triangles.proofs.Growth.{grown_at}
use Rattle.triangles.proofs.near.widen.Goals as goal

pub returns-clause-kept : goal.returns-clause-kept
returns-clause-kept c = grown_at _ _ _ c.requires c.joined.ensures.first
