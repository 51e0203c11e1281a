-- An interrupted read takes nothing from the reader.
use Rattle.std.specs.Io.KnownBytes.{Keeps}
use Rattle.real_host.proofs.retried.read_retried.Given as goal

abbrev pub invariant-loop : goal.invariant-loop
invariant-loop g l = Keeps (g.F.Read.remaining l.initial.reader) (g.F.Read.remaining l.reader)
