use Rattle.std.proofs.Common.{take}
use Rattle.scan.proofs.PrintSteps.{IsCut, AllOnce}
use Rattle.scan.proofs.print.is_wide.Given as goal

abbrev pub invariant-loop-i : goal.invariant-loop-i
invariant-loop-i l = record {
  so_far : AllOnce (take l.i l.points) l.seen;
  cut : IsCut l.seen l.next l.i;
}
