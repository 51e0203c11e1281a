use Rattle.std.proofs.Common.{[], ◌∷◌}
use Rattle.geo_tie.specs.Rising.{all_at, IsCellListBefore}
use Rattle.geo_tie.proofs.cells.push_cells_of_three.Given as goal

abbrev pub invariant-loop-d : goal.invariant-loop-d
invariant-loop-d l = IsCellListBefore (all_at l.vertices) (l.a ∷ l.b ∷ l.c ∷ l.d ∷ []) l.cells.items
