use Rattle.std.proofs.Common.{[], ◌∷◌}
use Rattle.geo_tie.specs.Rising.{all_at, IsCellListBefore}
use Rattle.geo_tie.proofs.cells.push_cells_of_one.Given as goal

abbrev pub invariant-loop-b : goal.invariant-loop-b
invariant-loop-b l = IsCellListBefore (all_at l.vertices) (l.a ∷ l.b ∷ []) l.cells.items
