use Rattle.std.proofs.Common.{ℕ, ◌<◌, List, [], get_or, Contains}
use Rattle.std.specs.List.{All}
use Rattle.mesh_join.specs.Joins.{lists_of, IsJoined, OwnsFirst}
use Rattle.mesh_join.proofs.held.push_kept.Given as goal

abbrev pub invariant-loop-face : goal.invariant-loop-face
invariant-loop-face l =
    record {
      sound : All (IsJoined l.owners (lists_of l.tiles)) l.fn.list.items → All (IsJoined l.owners (lists_of l.tiles)) l.list.items;
      kept : (f : List ℕ) → Contains l.fn.list.items f → Contains l.list.items f;
      complete :
          (k : ℕ) → k < l.face-index → IsJoined l.owners (lists_of l.tiles) (get_or l.faces k [])
          → OwnsFirst l.owners l.i (get_or l.faces k []) → Contains l.list.items (get_or l.faces k []);
    }
