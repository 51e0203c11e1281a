use Rattle.solid_query.proofs.Unique.{points_have_labels_law}
use Rattle.solid_query.proofs.laws.points_have_labels.Goals as goal

pub returns : goal.returns
returns c = points_have_labels_law
