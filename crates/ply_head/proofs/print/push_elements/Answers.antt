use Rattle.ply_head.specs.Spelling.{element_lines}
use Rattle.ply_head.proofs.SpellingLemmas.{lines_more}
use Rattle.ply_head.proofs.print.push_elements.Goals as goal

pub loop-element-preserved : goal.loop-element-preserved
loop-element-preserved c =
    lines_more element_lines c.args.text.now.items c.loop-element.text.items c.push_element.new.text.items c.args.elements.now
    c.loop-element.element-index c.element-item.result c.loop-element-test.true c.element-item.is c.loop-element.invariant
    c.in_ok-push_element.ensures
