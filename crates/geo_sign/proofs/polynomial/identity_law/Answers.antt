use Rattle.geo_sign.proofs.Ring.{identity_law as identity}
use Rattle.geo_sign.proofs.polynomial.identity_law.Goals as goal

pub returns : goal.returns
returns c = identity
