use Rattle.std.proofs.Common.{ℕ, ◌≡◌, ◌<◌, map, take, length, get_or}
use Rattle.mesh.specs.Meshes.{point_at}
use Rattle.mesh_pieces.proofs.copies.points_of.Given as goal

abbrev pub invariant-loop-v : goal.invariant-loop-v
invariant-loop-v l =
    record {
      originals : (k : ℕ) → k < l.v-index → get_or l.origin k 0 < length l.points;
      places : l.list.items ≡ map (point_at l.points) (take l.v-index l.origin);
    }
