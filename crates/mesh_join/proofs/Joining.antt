-- From a join of the lists of tiles to that of their meshes.
use Rattle.std.proofs.Common.{ℕ, ◌≡◌, ◌∙◌, sym, List, length}
use Rattle.std.specs.HashMap.{hash_map_len}
use Rattle.mesh.specs.declared.mesh.Mesh.{Mesh}
use Rattle.mesh_edges.specs.declared.balance.UnbalancedEdge.{UnbalancedEdge}
use Rattle.mesh_join.specs.Joins.{AreListsOf, AreTiles, IsClosedJoin, IsJoining}
use Rattle.mesh_join.specs.Refusals.{IsOpenJoin, StaysOpen}
use Rattle.mesh_join.specs.declared.join.Joined.{Joined}
use Rattle.mesh_join.specs.declared.owners.Core.{Core}
use Rattle.mesh_join.specs.declared.owners.Owners.{Owners}

module _ (o : Owners) (lists : List (List (List ℕ))) (cores : List Core) (meshes : List Mesh) (same : o.cores.items ≡ cores)
    (are : AreListsOf o.places.items meshes lists) where
  pub are_tiles : length cores ≡ length meshes → AreTiles o lists
  are_tiles count =
      record { cores = are.count ∙ (sym count ∙ sym (lengths same)); sorted = are.sorted; valid = are.valid }
    where
      lengths : {xs ys : List Core} → xs ≡ ys → length xs ≡ length ys
      lengths e = cc

  pub joining : (j : Joined)
      → (filling : List (List ℕ)) × IsClosedJoin o lists filling j.mesh.points.items j.mesh.faces.items × (j.filled ≡ length filling)
      → j.moved ≡ hash_map_len o.moved → IsJoining cores meshes j.mesh.points.items j.mesh.faces.items j.moved j.filled
  joining j closed moved =
      record {
        owners = o;
        lists = lists;
        filling = closed.0;
        same_cores = same;
        are_lists = are;
        closed = closed.1;
        moved_is = moved;
        filled_is = closed.2;
      }

  pub opening : (edge : UnbalancedEdge) → StaysOpen o lists edge → IsOpenJoin cores meshes edge
  opening edge stays = record { owners = o; lists = lists; same_cores = same; are_lists = are; stays = stays }
