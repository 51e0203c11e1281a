use Rattle.host.proofs.Handed.{AreKept}
use Rattle.host.proofs.files.handed.kept_files.Given as goal

abbrev pub invariant-loop-handed : goal.invariant-loop-handed
invariant-loop-handed l = AreKept l.room l.kept.items l.yielded
