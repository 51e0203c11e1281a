use Rattle.std.proofs.Common.{ℕ, List, ◌≡◌, ◌+◌, ◌-◌, length, get_or, ap, arith}
use Rattle.max_flow.proofs.Additions.{enters_more, leaves_more, nothing_more, excesses_are}
use Rattle.max_flow.proofs.balance.excesses.Goals as goal
use Rattle.max_flow.proofs.balance.excesses.Goals.{then-amount-gt0, else-amount-gt0}

pub loop-arc-preserved : goal.loop-arc-preserved
loop-arc-preserved g c =
    let net = g.N.FlowNetwork.numbered c.args.net.now in
    let amounts = c.args.flow.now.on_arc in
    let arc = c.loop-arc.arc in
    let left = c.loop-arc.left in
    let more : ℕ = get_or c.as_slice-flowing-items.result.now arc 0 in
    let more_is : more ≡ get_or amounts arc 0 = ap (λ (xs : List ℕ). get_or xs arc 0) c.as_slice-flowing-items.ensures in
    elim c.if-amount-gt0.branch [
      | then-amount-gt0 w ↦
          let entered =
          enters_more net.to net.from amounts net.node_count arc arc left left w.head-head.result w.index_mut.result.now more
          c.loop-arc.sums.items c.loop-arc.invariant w.head-head.ensures.value w.head-head.ensures.within
          w.index_mut.ensures.value more_is c.if-amount-left.false in
          rw w.sums-is
          (leaves_more net.to net.from amounts net.node_count (arc + 1) arc (left - more) left w.tail-tail.result
          w.index_mut-then-amount-gt0.result.now more _ entered w.tail-tail.ensures.value w.tail-tail.ensures.within
          w.index_mut-then-amount-gt0.ensures.value more_is c.if-amount-left.false)
      | else-amount-gt0 w ↦
          rw w.sums-is
          (nothing_more net.to net.from amounts net.node_count arc left left more c.loop-arc.sums.items c.loop-arc.invariant
          more_is w.if-amount-gt0.false)
    ]

pub returns : goal.returns
returns g c =
    let size = ap (λ (xs : List ℕ). length xs) c.as_slice-flowing-items.ensures in
    excesses_are (g.N.FlowNetwork.numbered c.args.net.now) c.args.flow.now c.loop-arc.sums.items c.loop-arc.arc c.loop-arc.left
    c.loop-arc.left (omega (arith, size, c.loop-arc.auto.arc-end, c.loop-arc-test.false, c.requires)) c.loop-arc.invariant
