use Rattle.ply_head.specs.Spelling.{property_text}
use Rattle.ply_head.proofs.SpellingLemmas.{one_line_more}
use Rattle.ply_head.proofs.print.push_properties.Goals as goal

pub loop-property-preserved : goal.loop-property-preserved
loop-property-preserved c =
    one_line_more property_text c.args.text.now.items c.loop-property.text.items c.push_property.new.text.items
    c.args.properties.now c.loop-property.property-index c.property-item.result c.loop-property-test.true c.property-item.is
    c.loop-property.invariant c.in_ok-push_property.ensures
