use Rattle.std.proofs.Common.{arith}
use Rattle.host.proofs.Changes.{appends_step}
use Rattle.host.proofs.calls.append_all.Goals as goal

pub loop-done-preserved : goal.loop-done-preserved
loop-done-preserved g c = (
  grind arith,
  appends_step c.loop-done.done c.in_ok-done.field-0 c.args.bytes.now _ _ _ c.loop-done.invariant.1 c.in_ok-done.ensures.added,
)
