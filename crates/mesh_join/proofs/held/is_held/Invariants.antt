use Rattle.std.proofs.Common.{ℕ, ◌≡◌, ◌<◌, true, Contains}
use Rattle.mesh_join.specs.Joins.{faces_of, lists_of, owns}
use Rattle.mesh_join.proofs.held.is_held.Given as goal

abbrev pub invariant-loop-i : goal.invariant-loop-i
invariant-loop-i l =
    (j : ℕ) → j < l.i → owns l.owners j l.u l.v ≡ true → Contains (faces_of (lists_of l.tiles) j) l.face → ⊥
