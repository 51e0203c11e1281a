use Rattle.std.proofs.Common.{map, not}
use Rattle.std.specs.List.{All, count_by}
use Rattle.solid_slice.specs.Cuts.{IsStep}
use Rattle.solid_slice.specs.Loops.{the_face}
use Rattle.solid_slice.proofs.Following.{IsFollowed}
use Rattle.solid_slice.proofs.rings.follow.Given as goal

abbrev pub invariant-loop-steps : goal.invariant-loop-steps
invariant-loop-steps l =
    record {
      walk : IsFollowed l.mesh.points.items l.mesh.faces.items l.fn.height l.next l.fn.visited l.fn.start l.visited
          (map the_face l.steps.items) l.face;
      points : All (IsStep l.mesh.points.items l.mesh.faces.items l.fn.height) l.steps.items;
    }

abbrev pub decreases-loop-steps : goal.decreases-loop-steps
decreases-loop-steps l = count_by not l.visited
