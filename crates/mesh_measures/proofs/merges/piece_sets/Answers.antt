use Rattle.std.proofs.Common.{arith, length}
use Rattle.mesh_measures.specs.declared.merges.Part.TheVariants.{Face}
use Rattle.mesh_measures.proofs.Linked.{part_within, pieces_merged}
use Rattle.mesh_measures.proofs.merges.piece_sets.Goals as goal

pub merge_parts-requires-clause-within : goal.merge_parts-requires-clause-within
merge_parts-requires-clause-within c = λ i l.
    let count = c.in_ok-sets.ensures.count in
    omega (
      arith,
      part_within c.args.faces.now c.args.sides.now c.requires Face (length c.args.faces.now)
          (λ s side. let ends = side.ends in omega (arith, ends.one)) i l,
    )

pub returns : goal.returns
returns c =
    pieces_merged c.args.faces.now c.args.sides.now c.requires c.in_ok-sets.sets.parents.items c.merge_parts.new.sets.parents.items
    c.in_ok-sets.ensures.count c.in_ok-sets.ensures.apart c.merge_parts.new.sets.forest c.merge_parts.ensures
