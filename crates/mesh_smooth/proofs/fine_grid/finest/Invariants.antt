use Rattle.std.proofs.Common.{◌≡◌, ◌⊎◌, ◌-◌, ◌≤◌, ◌*◌}
use Rattle.geo_sign.specs.declared.point.TheConstants.{BOX_LIMIT}
use Rattle.mesh_smooth.specs.Smoothed.{IsScale}
use Rattle.mesh_smooth.specs.declared.fine_grid.TheConstants.{INNER_LIMIT}
use Rattle.mesh_smooth.proofs.fine_grid.finest.Given as goal

abbrev pub invariant-loop-fine : goal.invariant-loop-fine
invariant-loop-fine l = record {
  scale : IsScale l.fine;
  fits : (l.fine ≡ 1) ⊎ (l.fine * l.reach ≤ INNER_LIMIT);
  bound : l.fine * l.reach ≤ BOX_LIMIT;
}

abbrev pub decreases-loop-fine : goal.decreases-loop-fine
decreases-loop-fine l = 1024 - l.fine
