use Rattle.std.proofs.Common.{ℕ, ◌≡◌, ◌<◌, length}
use Rattle.std.specs.Cmp.Lexicographic.{slice_cmp}
use Rattle.std.specs.List.{All}
use Rattle.std.specs.List.Sorted.{IsSorted}
use Rattle.std.specs.Ordering.{nat_cmp}
use Rattle.mesh.specs.Meshes.{IsFace}
use Rattle.mesh_join.specs.Joins.{lists_of}
use Rattle.mesh_join.proofs.Tiles.{NumberedAt}
use Rattle.mesh_join.proofs.places.tiles_of.Given as goal

abbrev pub invariant-loop-i : goal.invariant-loop-i
invariant-loop-i l =
    record {
      count : length l.tiles.items ≡ l.i;
      numbered : (j : ℕ) → j < l.i → NumberedAt l.places l.meshes l.tiles.items j;
      sorted : All (IsSorted (slice_cmp nat_cmp)) (lists_of l.tiles.items);
      valid : All (All (IsFace (length l.places))) (lists_of l.tiles.items);
    }
