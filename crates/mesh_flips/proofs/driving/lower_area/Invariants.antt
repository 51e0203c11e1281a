use Rattle.mesh_flips.specs.Flips.{IsFlipped}
use Rattle.mesh_flips.specs.Fields.{IsReady}
use Rattle.mesh_flips.proofs.driving.lower_area.Given as goal

abbrev pub invariant-loop : goal.invariant-loop
invariant-loop l = record { flipped : IsFlipped l.points l.fn.faces l.faces; ready : IsReady l.points l.faces l.tree }
