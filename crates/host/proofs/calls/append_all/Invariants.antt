use Rattle.std.proofs.Common.{length, ◌-◌, ◌≡◌, ◌≤◌, take}
use Rattle.host.specs.State.{appends}
use Rattle.host.proofs.calls.append_all.Given as goal

abbrev pub invariant-loop-done : goal.invariant-loop-done
invariant-loop-done g l =
    (l.done ≤ length l.bytes) × (g.H.Host.state l.host ≡ appends (take l.done l.bytes) (g.H.Host.state l.fn.host))

abbrev pub decreases-loop-done : goal.decreases-loop-done
decreases-loop-done g l = length l.bytes - l.done
