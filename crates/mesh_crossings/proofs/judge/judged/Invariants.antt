use Rattle.std.specs.List.{Contains}
use Rattle.mesh_edges.specs.declared.pairs.Pair.{Pair}
use Rattle.mesh_crossings.specs.Crossings.{AreCrossing}
use Rattle.mesh_crossings.proofs.Tidied.{AreDivided}
use Rattle.mesh_crossings.proofs.judge.judged.Given as goal

abbrev pub invariant-loop-pair : goal.invariant-loop-pair
invariant-loop-pair l =
    record {
      each : (q : Pair) → Contains l.crossing.items q → AreCrossing l.points l.faces q;
      divided : AreDivided l.pairs l.crossing.items l.undecided.items l.pair-index;
    }
