use Rattle.std.proofs.Common.{arith}
use Rattle.num_text.proofs.ScaleLemmas.{power_fits}
use Rattle.num_text.proofs.decimal.power_of_ten.Goals as goal

pub overflow_mul-power : goal.overflow_mul-power
overflow_mul-power c = omega (arith, c.loop.invariant, power_fits c.loop.counter 37 (omega arith))
