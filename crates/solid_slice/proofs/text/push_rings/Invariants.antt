use Rattle.std.proofs.Common.{◌≡◌, ◌++◌, take, map}
use Rattle.std.specs.List.{flat_map}
use Rattle.solid_slice.specs.Slices.{steps_of}
use Rattle.solid_slice.specs.Texts.{ring_text}
use Rattle.solid_slice.proofs.text.push_rings.Given as goal

abbrev pub invariant-loop-ring : goal.invariant-loop-ring
invariant-loop-ring l = l.out.items ≡ l.initial.out.items ++ flat_map ring_text (map steps_of (take l.ring-index l.rings))
