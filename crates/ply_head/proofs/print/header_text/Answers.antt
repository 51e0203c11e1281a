use Rattle.std.proofs.Common.{◌++◌, List, ap, ◌∙◌}
use Rattle.std.specs.List.{flat_map}
use Rattle.ply_head.specs.declared.header.Element.{Element}
use Rattle.ply_head.specs.Spelling.{joined, element_lines}
use Rattle.ply_head.proofs.SpellingLemmas.{header_printed}
use Rattle.ply_head.proofs.print.header_text.Goals as goal

pub returns : goal.returns
returns c =
    header_printed c.args.head.now c.in_ok-text.text.items c.push_format.new.text.items c.push_elements.new.text.items
    c.push_last_word.new.text.items
    c.in_ok-text.ensures.items c.in_ok-push_format.ensures
    (c.in_ok-push_elements.ensures
    ∙ ap (λ (es : List Element). c.push_format.new.text.items ++ joined (flat_map element_lines es)) c.as_slice.ensures)
    c.in_ok-push_last_word.ensures
