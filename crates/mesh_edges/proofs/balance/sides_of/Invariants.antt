use Rattle.std.proofs.Common.{take}
use Rattle.mesh_edges.specs.Pairs.{IsPairOf, AreRising}
use Rattle.mesh_edges.proofs.balance.sides_of.Given as goal

abbrev pub invariant-loop-face : goal.invariant-loop-face
invariant-loop-face l =
    record {
      pairs : IsPairOf (take l.face-index l.faces) l.sides.there.items l.sides.back.items;
      there_rising : AreRising l.sides.there.items;
      back_rising : AreRising l.sides.back.items;
    }
