use Rattle.std.proofs.Common.{◌≡◌, false, take}
use Rattle.ply_head.specs.Headers.{has_property}
use Rattle.ply_head.proofs.steps.is_property.Given as goal

abbrev pub invariant-loop-property : goal.invariant-loop-property
invariant-loop-property l = has_property l.name (take l.property-index l.property-items) ≡ false
