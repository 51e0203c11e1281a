use Rattle.solid_query.proofs.Unique.{labels_are_certified_law}
use Rattle.solid_query.proofs.laws.labels_are_certified.Goals as goal

pub returns : goal.returns
returns c = labels_are_certified_law
