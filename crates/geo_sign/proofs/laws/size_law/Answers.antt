use Rattle.geo_sign.proofs.PowerBounds.{normals_are_small, powers_are_small}
use Rattle.geo_sign.proofs.laws.size_law.Goals as goal

pub returns-clause-normals : goal.returns-clause-normals
returns-clause-normals c = normals_are_small

pub returns-clause-powers : goal.returns-clause-powers
returns-clause-powers c = powers_are_small
