use Rattle.std.proofs.Common.{[], ◌∷◌}
use Rattle.geo_tie.specs.Rising.{all_at, IsCellListBefore}
use Rattle.geo_tie.proofs.cells.plain_cells.Given as goal

abbrev pub invariant-loop-a : goal.invariant-loop-a
invariant-loop-a l = IsCellListBefore (all_at l.vertices.items) (l.a ∷ []) l.cells.items
