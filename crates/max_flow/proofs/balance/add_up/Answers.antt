use Rattle.std.proofs.Common.{◌≡◌, ◌^◌, ◌<◌, get_or, rules}
use Rattle.max_flow.proofs.Additions.{sums_more}
use Rattle.max_flow.proofs.balance.add_up.Goals as goal

pub loop-arc-preserved : goal.loop-arc-preserved
loop-arc-preserved g c =
    let net = g.N.FlowNetwork.numbered c.args.net.now in
    let arc = c.loop-arc.arc in
    let amount_is : c.from-amount.result ≡ get_or c.args.flow.now.on_arc arc 0 = search rules in
    let fits : c.from-amount.result < 2 ^ 64 = search rules in
    record {
      entering = sums_more net.to c.args.flow.now.on_arc net.node_count arc c.head-head.result c.index_mut.result.now
          c.from-amount.result c.loop-arc.entering.items c.loop-arc.invariant.entering c.head-head.ensures.value
          c.head-head.ensures.within c.index_mut.ensures.value amount_is fits;
      leaving = sums_more net.from c.args.flow.now.on_arc net.node_count arc c.tail-tail.result
          c.index_mut-in-loop-arc.result.now c.from-amount.result c.loop-arc.leaving.items c.loop-arc.invariant.leaving
          c.tail-tail.ensures.value c.tail-tail.ensures.within c.index_mut-in-loop-arc.ensures.value amount_is fits;
    }
