use Rattle.std.proofs.Common.{◌≡◌, false, take}
use Rattle.ply_head.specs.Headers.{has_element}
use Rattle.ply_head.proofs.steps.is_element.Given as goal

abbrev pub invariant-loop-element : goal.invariant-loop-element
invariant-loop-element l = has_element l.name (take l.element-index l.element-items) ≡ false
