use Rattle.std.proofs.Common.{arith, ◌≡◌}
use Rattle.curve_order.proofs.Keys.{one_bit}
use Rattle.curve_order.proofs.curve.all_interleaved.Goals as goal

pub returns-clause-value : goal.returns-clause-value
returns-clause-value c =
    let e = one_bit 22 c.args.x c.args.y c.args.z (λ (h : 22 ≡ 0). absurd (omega (arith, h))) in
    let v = c.interleaved-high.ensures.value in
    let f = c.from.ensures in
    let g = c.from-2.ensures in
    let l = c.lowest.ensures in
    omega arith
