-- An interrupted write adds nothing to what the writer holds.
use Rattle.std.specs.Io.KnownBytes.{Keeps}
use Rattle.real_host.proofs.retried.write_retried.Given as goal

abbrev pub invariant-loop : goal.invariant-loop
invariant-loop g l = Keeps (g.W.Write.contents l.initial.writer) (g.W.Write.contents l.writer)
