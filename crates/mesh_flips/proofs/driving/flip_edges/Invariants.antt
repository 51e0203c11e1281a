use Rattle.mesh_flips.specs.Flips.{IsFlipped}
use Rattle.mesh_flips.specs.Fields.{IsReady}
use Rattle.mesh_flips.proofs.driving.flip_edges.Given as goal

abbrev pub invariant-loop-least : goal.invariant-loop-least
invariant-loop-least l = record { flipped : IsFlipped l.points l.fn.faces l.faces; ready : IsReady l.points l.faces l.tree }
