-- A number of units that is out of range is so times any power of ten, and one unit is so at 10^8.
use Rattle.std.proofs.Common.{sym, arith}
use Rattle.num_text.proofs.ScaleLemmas.{within_limit_none, many_out, far_out}
use Rattle.num_text.proofs.decimal.units_times.Goals as goal

pub returns-then-units : goal.returns-then-units
returns-then-units c = sym (within_limit_none _ (many_out c.args.units c.args.exponent c.if-units.true))

pub returns-then-exponent-gt7 : goal.returns-then-exponent-gt7
returns-then-exponent-gt7 c =
    sym (within_limit_none _ (far_out c.args.units c.args.exponent (omega arith) c.if-exponent-gt7.true))
