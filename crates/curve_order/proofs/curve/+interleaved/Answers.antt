use Rattle.std.proofs.Common.{arith}
use Rattle.curve_order.proofs.Keys.{no_bits, one_bit, high_small, more_bound}
use Rattle.curve_order.proofs.curve.+interleaved.Goals as goal

pub returns-then-bits-eq0-clause-value : goal.returns-then-bits-eq0-clause-value
returns-then-bits-eq0-clause-value t c = no_bits c.args.bits c.args.x c.args.y c.args.z c.if-bits-eq0.true

pub overflow_mul-result : goal.overflow_mul-result
overflow_mul-result t c =
    let l = high_small c.args.bits c.interleaved-high.result c.requires c.interleaved-high.ensures.bound in
    omega arith

pub overflow_add-result : goal.overflow_add-result
overflow_add-result t c =
    let l = high_small c.args.bits c.interleaved-high.result c.requires c.interleaved-high.ensures.bound in
    let e = c.from.ensures in
    omega arith

pub returns-clause-value : goal.returns-clause-value
returns-clause-value t c =
    let e = one_bit c.args.bits c.args.x c.args.y c.args.z c.if-bits-eq0.false in
    let v = c.interleaved-high.ensures.value in
    let f = c.from.ensures in
    omega arith

pub returns-clause-bound : goal.returns-clause-bound
returns-clause-bound t c =
    more_bound c.args.bits c.interleaved-high.result c.from.result c.if-bits-eq0.false c.interleaved-high.ensures.bound
    (let e = c.from.ensures in omega arith)
