use Rattle.std.proofs.Common.{take}
use Rattle.command_run.specs.Replies.{texts_of}
use Rattle.command_run.specs.Steps.{IsWritten}
use Rattle.command_run.proofs.carrying.conclude.Given as goal

abbrev pub invariant-loop-text : goal.invariant-loop-text
invariant-loop-text g l = IsWritten (texts_of (take l.text-index l.texts)) (g.H.Host.state l.fn.host) (g.H.Host.state l.host)
