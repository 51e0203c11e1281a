use Rattle.std.proofs.Common.{arith}
use Rattle.mesh_measures.proofs.Merged.{all_merged, merged_at, none_merged}
use Rattle.mesh_measures.proofs.Runs.{sorted_at}
use Rattle.mesh_measures.proofs.merges.merge_parts.Goals as goal

pub loop-i-init : goal.loop-i-init
loop-i-init c = none_merged c.args.part c.args.sides.now c.args.sets.now.parents.items

pub loop-i-preserved : goal.loop-i-preserved
loop-i-preserved c =
    merged_at c.args.part c.args.sides.now c.args.sets.now.parents.items c.loop-i.sets.parents.items
    c.merge_at.new.sets.parents.items c.loop-i.i (omega arith) (omega arith) c.merge_at.ensures.merged c.merge_at.ensures.same
    c.loop-i.invariant

pub merge_at-requires-clause-within : goal.merge_at-requires-clause-within
merge_at-requires-clause-within c = λ k l. omega (arith, c.requires.within k l, c.loop-i.invariant.count)

pub returns : goal.returns
returns c =
    all_merged c.args.part c.args.sides.now c.args.sets.now.parents.items c.loop-i.sets.parents.items c.loop-i.i
    c.loop-i.sets.forest (omega arith) (sorted_at c.args.sides.now c.requires.sorted)
    (λ k l. omega (arith, c.requires.within k l, c.loop-i.invariant.count)) c.loop-i.invariant
