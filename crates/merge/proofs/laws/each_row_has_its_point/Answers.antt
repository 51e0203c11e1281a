use Rattle.geo_sign.specs.Point.{IsWithin}
use Rattle.merge.proofs.Distinct.{few, keep}
use Rattle.merge.proofs.Indices.{each_stands}
use Rattle.merge.proofs.laws.each_row_has_its_point.Goals as goal

pub returns-clause-few : goal.returns-clause-few
returns-clause-few c = few

pub returns-clause-within : goal.returns-clause-within
returns-clause-within c m = keep (IsWithin m)

pub returns-clause-index : goal.returns-clause-index
returns-clause-index c = each_stands
