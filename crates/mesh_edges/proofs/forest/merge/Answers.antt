use Rattle.std.proofs.Common.{arith}
use Rattle.mesh_edges.proofs.Tops.{merge_turned, merged_sets, top_own}
use Rattle.mesh_edges.proofs.forest.merge.Goals as goal

pub returns-then-one-other-clause-merged : goal.returns-then-one-other-clause-merged
returns-then-one-other-clause-merged c =
    let old = c.args.parents.now in
    let mid = c.find-other.new.parents in
    let one = c.find-one.result in
    let other = c.find-other.result in
    let top_one = c.find-other.ensures.kept c.args.i one c.find-one.ensures.top in
    merge_turned c.args.j c.args.i old _
    (merged_sets old mid c.args.j c.args.i other one (omega arith) c.requires.forest (top_own mid c.find-other.ensures.top)
    (top_own mid top_one) (omega arith) (λ k t p. c.find-other.ensures.kept k t (c.find-one.ensures.kept k t p)) c.requires.other
    c.requires.one c.find-other.ensures.top top_one)

pub returns-else-one-other-clause-merged : goal.returns-else-one-other-clause-merged
returns-else-one-other-clause-merged c =
    let old = c.args.parents.now in
    let mid = c.find-other.new.parents in
    let one = c.find-one.result in
    let other = c.find-other.result in
    let top_one = c.find-other.ensures.kept c.args.i one c.find-one.ensures.top in
    merged_sets old mid c.args.i c.args.j one other (omega arith) c.requires.forest (top_own mid top_one)
    (top_own mid c.find-other.ensures.top) (omega arith) (λ k t p. c.find-other.ensures.kept k t (c.find-one.ensures.kept k t p))
    c.requires.one c.requires.other top_one c.find-other.ensures.top
