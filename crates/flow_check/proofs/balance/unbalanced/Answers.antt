use Rattle.std.proofs.Common.{◌≡◌, ◌<◌, ◌+◌, ◌^◌, ◌≤◌, length, get_or, ap, arith}
use Rattle.std.proofs.lemmas.List.{get_or_read}
use Rattle.flow_check.proofs.balance.unbalanced.Goals as goal

pub overflow_add-amount_out : goal.overflow_add-amount_out
overflow_add-amount_out c =
    let leaving = c.args.totals.now.leaving.items in
    let here : c.loop-node.node < length c.args.net.now.fixed = omega (arith, ap length c.as_slice-fixed.ensures) in
    let read : c.index.result.now ≡ get_or leaving c.loop-node.node 0 =
    get_or_read leaving _ _ (omega (arith, c.requires.totals.leaving_count)) c.index.ensures 0 in
    let small : get_or leaving c.loop-node.node 0 + 2 ^ 64 ≤ 2 ^ 128 = c.requires.totals.leaving_fits c.loop-node.node here in
    omega (arith, c.type_inv.sent c.loop-node.node)
