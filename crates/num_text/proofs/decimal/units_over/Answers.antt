use Rattle.std.proofs.Common.{arith, sym, ap}
use Rattle.num_text.specs.Steps.{within_limit}
use Rattle.num_text.proofs.ScaleLemmas.{power_fits, power_some, few_none}
use Rattle.num_text.proofs.decimal.units_over.Goals as goal

pub returns-then-exponent-gt36 : goal.returns-then-exponent-gt36
returns-then-exponent-gt36 c = sym (ap within_limit (few_none c.args.units c.args.exponent c.requires c.if-exponent-gt36.true))

pub overflow_add-raised : goal.overflow_add-raised
overflow_add-raised c = omega (arith, c.power_of_ten-power.ensures, power_fits c.args.exponent 36 c.if-exponent-gt36.false)

pub overflow_mul-twice : goal.overflow_mul-twice
overflow_mul-twice c = omega (arith, c.power_of_ten-power.ensures, power_fits c.args.exponent 36 c.if-exponent-gt36.false)

pub nonzero_div-rounded : goal.nonzero_div-rounded
nonzero_div-rounded c = omega (arith, c.power_of_ten-power.ensures, power_some c.args.exponent)
