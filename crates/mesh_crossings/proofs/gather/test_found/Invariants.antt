use Rattle.std.proofs.Common.{ℕ, ◌<◌, get_or}
use Rattle.std.specs.List.{All}
use Rattle.mesh_crossings.specs.Crossings.{AreOrdered}
use Rattle.mesh_crossings.specs.Tested.{AreRanksKnown, KeepsPairs}
use Rattle.mesh_crossings.proofs.gather.test_found.Given as goal

abbrev pub invariant-loop-s : goal.invariant-loop-s
invariant-loop-s l =
    record {
      ordered : All (AreOrdered l.faces) l.pairs.items;
      kept : KeepsPairs l.fn.pairs.items l.pairs.items;
      known :
          (k : ℕ) → k < l.s-index → get_or l.found k 0 < l.r
          → AreRanksKnown l.points l.faces l.numbers l.pairs.items l.r (get_or l.found k 0);
    }
