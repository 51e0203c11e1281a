use Rattle.std.proofs.Common.{◌≡◌, ◌<◌, map, take, length}
use Rattle.std.specs.List.{All}
use Rattle.mesh.specs.Meshes.{point_at}
use Rattle.mesh_join.proofs.places.numbers_of.Given as goal

abbrev pub invariant-loop-point : goal.invariant-loop-point
invariant-loop-point l =
    record {
      at : take l.point-index l.points ≡ map (point_at l.places) l.numbers.items;
      within : All (λ n. n < length l.places) l.numbers.items;
    }
