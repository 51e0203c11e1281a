use Rattle.std.proofs.Common.{◌≡◌, take}
use Rattle.mesh_edges.proofs.umbrellas.narrowed.Given as goal

abbrev pub invariant-loop-i : goal.invariant-loop-i
invariant-loop-i l = l.list.items ≡ take l.i l.numbers
