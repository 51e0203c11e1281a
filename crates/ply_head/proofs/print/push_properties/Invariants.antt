use Rattle.std.proofs.Common.{◌≡◌, ◌++◌, take}
use Rattle.std.specs.Prelude.{map}
use Rattle.ply_head.specs.Spelling.{joined, property_text}
use Rattle.ply_head.proofs.print.push_properties.Given as goal

abbrev pub invariant-loop-property : goal.invariant-loop-property
invariant-loop-property l =
    l.text.items ≡ l.initial.text.items ++ joined (map property_text (take l.property-index l.properties))
