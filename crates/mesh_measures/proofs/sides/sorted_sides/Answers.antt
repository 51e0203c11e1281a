use Rattle.std.proofs.Common.{◌≡◌, ap, sym, ◌∙◌, arith, [], rules}
use Rattle.std.proofs.lemmas.Grind.{common_steps}
use Rattle.mesh_measures.proofs.Listed.{all_sides, sides_more, sides_none, sides_sorted}
use Rattle.mesh_measures.proofs.sides.sorted_sides.Goals as goal

pub loop-f-init : goal.loop-f-init
loop-f-init c =
    let empty : c.in_ok-sides.sides.items ≡ [] = search rules in
    empty ∙ sym (sides_none c.args.faces.now)

pub loop-f-preserved : goal.loop-f-preserved
loop-f-preserved c =
    sides_more c.args.faces.now c.loop-f.f c.loop-f.sides.items c.push_face.new.sides.items c.loop-f.invariant
    c.in_ok-push_face.ensures

pub returns : goal.returns
returns c =
    sides_sorted c.args.faces.now _ _ _ _ c.requires.each
    (c.loop-f.invariant ∙ ap (all_sides c.args.faces.now) (omega arith)) c.deref_mut.ensures.value (grind (arith, common_steps))
    c.sort.ensures.moved c.sort.ensures.sorted
