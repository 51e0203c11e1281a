use Rattle.std.proofs.Common.{◌∙◌, arith, length, sym}
use Rattle.std.proofs.lemmas.Bool.{false≢true}
use Rattle.mesh_measures.specs.Marks.{IsEndOfOdd}
use Rattle.mesh_measures.proofs.Marked.{second_more, second_skipped}
use Rattle.mesh_measures.proofs.Starts.{start_below}
use Rattle.mesh_measures.proofs.manifolds.mark_second.Goals as goal

pub returns-then-not-seen-v-clause-marked : goal.returns-then-not-seen-v-clause-marked
returns-then-not-seen-v-clause-marked c =
    let l = start_below c.args.faces.now (length c.args.flags.now) c.args.c c.requires.each c.requires.within in
    second_skipped c.args.faces.now c.args.c c.start-v.result (sym c.start-v.ensures) c.args.sets.now.parents.items
    (IsEndOfOdd c.args.faces.now c.args.sides.now (length c.args.sides.now)) c.args.flags.now
    (λ had first.
    false≢true (sym c.if-not-seen-v.true ∙ c.requires.seen.no c.start-v.result (omega (arith, c.start-v.ensures, l, c.requires.same)) had))
    c.requires.marked

pub returns-then-not-is_first-clause-marked : goal.returns-then-not-is_first-clause-marked
returns-then-not-is_first-clause-marked c =
    let j = c.if-not-is_first.ensures.no in
    second_skipped c.args.faces.now c.args.c c.start-v.result (sym c.start-v.ensures) c.args.sets.now.parents.items
    (IsEndOfOdd c.args.faces.now c.args.sides.now (length c.args.sides.now)) c.args.flags.now
    (λ had first. first j.0 j.1 j.2) c.requires.marked

pub returns-clause-marked : goal.returns-clause-marked
returns-clause-marked c =
    let l = start_below c.args.faces.now (length c.args.flags.now) c.args.c c.requires.each c.requires.within in
    second_more c.args.faces.now c.args.c c.start-v.result (sym c.start-v.ensures) c.args.sets.now.parents.items
    (IsEndOfOdd c.args.faces.now c.args.sides.now (length c.args.sides.now)) c.args.flags.now
    (omega (arith, c.start-v.ensures, l))
    (c.requires.seen.yes c.start-v.result (omega (arith, c.start-v.ensures, l, c.requires.same)) c.if-not-seen-v.false)
    c.if-not-is_first.ensures.yes c.requires.marked
