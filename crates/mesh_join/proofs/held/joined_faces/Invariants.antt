use Rattle.std.proofs.Common.{ℕ, ◌<◌, List, Contains}
use Rattle.std.specs.List.{All}
use Rattle.mesh_join.specs.Joins.{faces_of, lists_of, IsJoined, OwnsFirst}
use Rattle.mesh_join.proofs.held.joined_faces.Given as goal

abbrev pub invariant-loop-i : goal.invariant-loop-i
invariant-loop-i l =
    record {
      sound : All (IsJoined l.owners (lists_of l.tiles)) l.list.items;
      complete :
          (j : ℕ) → j < l.i → (f : List ℕ) → Contains (faces_of (lists_of l.tiles) j) f
          → IsJoined l.owners (lists_of l.tiles) f → OwnsFirst l.owners j f → Contains l.list.items f;
    }
