use Rattle.std.proofs.Common.{ℕ, ◌≡◌, ◌<◌, map, take, length, get_or}
use Rattle.mesh.specs.Meshes.{point_at}
use Rattle.mesh_simplify.proofs.valid.points_of.Given as goal

abbrev pub invariant-loop-v : goal.invariant-loop-v
invariant-loop-v l =
    record {
      points : l.list.items ≡ map (point_at l.old_points) (take l.v-index l.from);
      within : (k : ℕ) → k < l.v-index → get_or l.from k 0 < length l.old_points;
    }
