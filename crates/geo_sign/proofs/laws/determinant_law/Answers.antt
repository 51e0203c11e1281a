use Rattle.geo_sign.proofs.Determinants.{cramer, orientation_is_sum, point_is_sum, power_is_sum}
use Rattle.geo_sign.proofs.laws.determinant_law.Goals as goal

pub returns-clause-cramer : goal.returns-clause-cramer
returns-clause-cramer c = cramer

pub returns-clause-orientation : goal.returns-clause-orientation
returns-clause-orientation c = orientation_is_sum

pub returns-clause-point : goal.returns-clause-point
returns-clause-point c = point_is_sum

pub returns-clause-power : goal.returns-clause-power
returns-clause-power c = power_is_sum
