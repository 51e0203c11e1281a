use Rattle.std.proofs.Common.{ℕ, ◌≡◌, ◌<◌, [], length, get_or}
use Rattle.mesh_reach.specs.Reached.{AreCornersReached, AreMarkedReached}
use Rattle.mesh_reach.proofs.reached.first_of_faces.Given as goal

abbrev pub invariant-loop-face : goal.invariant-loop-face
invariant-loop-face l =
    record {
      marks : length l.search.marks.items ≡ length l.homes;
      marked : AreMarkedReached l.reach.fine l.reach.within l.homes l.mesh.points.items l.mesh.faces.items l.search.marks.items;
      before : (k : ℕ) → k < l.face-index
          → AreCornersReached l.reach.fine l.reach.within l.homes l.mesh.points.items l.mesh.faces.items (get_or l.home_faces k []);
    }
