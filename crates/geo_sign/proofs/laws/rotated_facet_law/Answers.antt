use Rattle.geo_sign.proofs.Rotations.{side_rotated, side_turned, crossed_rotated}
use Rattle.geo_sign.proofs.Rewritings.{same_facets}
use Rattle.geo_sign.proofs.laws.rotated_facet_law.Goals as goal

pub returns-clause-sides : goal.returns-clause-sides
returns-clause-sides c = side_rotated

pub returns-clause-turned : goal.returns-clause-turned
returns-clause-turned c = side_turned

pub returns-clause-crossings : goal.returns-clause-crossings
returns-clause-crossings c = crossed_rotated

pub returns-clause-facets : goal.returns-clause-facets
returns-clause-facets c = same_facets
