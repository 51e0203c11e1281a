use Rattle.std.proofs.Common.{arith}
use Rattle.mesh_measures.specs.declared.merges.Part.TheVariants.{Low, High}
use Rattle.mesh_measures.proofs.Linked.{corner_within, corners_merged}
use Rattle.mesh_measures.proofs.merges.corner_sets.Goals as goal

pub merge_parts-requires-clause-within : goal.merge_parts-requires-clause-within
merge_parts-requires-clause-within c = λ i l.
    let count = c.in_ok-sets.ensures.count in
    omega (arith, corner_within c.args.faces.now c.args.sides.now c.requires.sides Low i l)

pub merge_parts-requires-2-clause-within : goal.merge_parts-requires-2-clause-within
merge_parts-requires-2-clause-within c = λ i l.
    let count = c.in_ok-sets.ensures.count in
    let more = c.merge_parts.ensures.count in
    omega (arith, corner_within c.args.faces.now c.args.sides.now c.requires.sides High i l)

pub returns : goal.returns
returns c =
    corners_merged c.args.faces.now c.args.sides.now c.requires.sides c.in_ok-sets.sets.parents.items
    c.merge_parts.new.sets.parents.items c.merge_parts-2.new.sets.parents.items (omega (arith, c.in_ok-sets.ensures.count))
    c.in_ok-sets.ensures.apart c.merge_parts-2.new.sets.forest c.merge_parts.ensures c.merge_parts-2.ensures
