use Rattle.std.proofs.Common.{[], ◌∷◌}
use Rattle.geo_tie.specs.Rising.{all_at, IsCellListBefore}
use Rattle.geo_tie.proofs.cells.push_cells_of_two.Given as goal

abbrev pub invariant-loop-c : goal.invariant-loop-c
invariant-loop-c l = IsCellListBefore (all_at l.vertices) (l.a ∷ l.b ∷ l.c ∷ []) l.cells.items
