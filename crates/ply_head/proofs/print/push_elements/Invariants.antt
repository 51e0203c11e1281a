use Rattle.std.proofs.Common.{◌≡◌, ◌++◌, take}
use Rattle.std.specs.List.{flat_map}
use Rattle.ply_head.specs.Spelling.{joined, element_lines}
use Rattle.ply_head.proofs.print.push_elements.Given as goal

abbrev pub invariant-loop-element : goal.invariant-loop-element
invariant-loop-element l =
    l.text.items ≡ l.initial.text.items ++ joined (flat_map element_lines (take l.element-index l.elements))
