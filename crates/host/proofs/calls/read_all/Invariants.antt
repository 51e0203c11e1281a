use Rattle.std.proofs.Common.{◌-◌, length}
use Rattle.host.proofs.Reading.{IsReading}
use Rattle.host.proofs.calls.read_all.Given as goal

abbrev pub invariant-loop-bytes : goal.invariant-loop-bytes
invariant-loop-bytes g l = IsReading l.limit l.name (g.H.Host.state l.fn.host) (g.H.Host.state l.host) l.bytes.items

abbrev pub decreases-loop-bytes : goal.decreases-loop-bytes
decreases-loop-bytes g l = l.limit - length l.bytes.items
