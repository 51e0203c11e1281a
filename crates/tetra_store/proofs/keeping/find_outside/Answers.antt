use Rattle.std.proofs.Common.{arith}
use Rattle.tetra_store.proofs.Observed.{slot_in}
use Rattle.tetra_store.proofs.keeping.find_outside.Goals as goal

pub unreachable-requires : goal.unreachable-requires
unreachable-requires c =
    let h = c.requires.held in
    let l = slot_in c.args.cells.now.slots h.cell h.live in
    c.loop-number.invariant h.cell
    (omega (arith, l, c.capacity-number-end.ensures.slots, c.capacity-number-end.ensures.value, c.loop-number-test.false))
    (record { live = h.live; outside = h.outside; has = h.has })
