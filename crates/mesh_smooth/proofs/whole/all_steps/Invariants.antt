use Rattle.std.proofs.Common.{◌≡◌, length, false}
use Rattle.std.specs.List.{All}
use Rattle.mesh_flips.specs.Turns.{IsTriangle}
use Rattle.mesh_smooth.specs.Near.{AreNearHome}
use Rattle.mesh_smooth.specs.Smoothed.{IsReshaped}
use Rattle.mesh_smooth.proofs.whole.all_steps.Given as goal

abbrev pub invariant-loop : goal.invariant-loop
invariant-loop l =
    record {
      each : All (IsTriangle (length l.points)) l.faces;
      near : AreNearHome l.home.points.now l.points l.home.within;
      shape : IsReshaped l.fn.points l.points l.fn.faces l.faces;
      still : l.smoothing.flips ≡ false → l.faces ≡ l.fn.faces;
    }
