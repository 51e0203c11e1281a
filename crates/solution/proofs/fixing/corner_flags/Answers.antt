use Rattle.std.proofs.Common.{◌<◌, ℕ, List, sym, subst, arith, length}
use Rattle.tetra_store.specs.declared.link.Cell.{Cell}
use Rattle.solution.proofs.Flags.{AreFlagged, none_flagged, entry_in_range, entry_flagged, all_flagged}
use Rattle.solution.proofs.fixing.corner_flags.Goals as goal

pub loop-id-init : goal.loop-id-init
loop-id-init c =
    subst (λ (left : List (ℕ × Cell)). AreFlagged c.args.t.now.slots left c.in_ok-flags.flags.items) (sym c.cells-cells.ensures)
    (none_flagged c.args.t.now.slots c.in_ok-flags.flags.items
    (omega (arith, c.number_limit.ensures, c.in_ok-flags.ensures.len)))

pub index_mut-requires : goal.index_mut-requires
index_mut-requires c =
    let l : c.number.result < length c.loop-id.flags.items =
    entry_in_range c.args.t.now.slots c.loop-id.cells c.next.new.self c.loop-id.flags.items _ c.number.result _
    c.in-Some.ensures c.number.ensures c.loop-id.invariant in
    omega (arith, l, c.loop-id.flags.ok)

pub loop-id-preserved : goal.loop-id-preserved
loop-id-preserved c =
    entry_flagged c.args.t.now.slots c.loop-id.cells c.next.new.self c.loop-id.flags.items _ c.number.result _
    c.has_corner.result c.in-Some.ensures c.number.ensures c.has_corner.ensures c.loop-id.invariant

pub returns-clause-count : goal.returns-clause-count
returns-clause-count c = c.loop-id.invariant.fits

pub returns-clause-at : goal.returns-clause-at
returns-clause-at c =
    all_flagged c.args.t.now.slots c.loop-id.flags.items
    (subst (λ (left : List (ℕ × Cell)). AreFlagged c.args.t.now.slots left c.loop-id.flags.items) c.in_default.ensures.0
    c.loop-id.invariant)
