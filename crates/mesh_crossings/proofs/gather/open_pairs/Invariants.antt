use Rattle.std.specs.List.{All}
use Rattle.mesh_crossings.specs.Crossings.{AreOrdered}
use Rattle.mesh_crossings.specs.Tested.{AreAllKnown}
use Rattle.mesh_crossings.proofs.gather.open_pairs.Given as goal

abbrev pub invariant-loop-r : goal.invariant-loop-r
invariant-loop-r l =
    record {
      ordered : All (AreOrdered l.faces) l.pairs.items;
      known : AreAllKnown l.points l.faces l.ranks.numbers.now l.pairs.items l.r;
    }
