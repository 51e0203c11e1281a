use Rattle.visibility.proofs.Ordered.{facets_are_ordered, one_complex}
use Rattle.visibility.proofs.laws.facets_are_listed_once.Goals as goal

pub returns-clause-ordered : goal.returns-clause-ordered
returns-clause-ordered c = facets_are_ordered

pub returns-clause-one : goal.returns-clause-one
returns-clause-one c = one_complex
