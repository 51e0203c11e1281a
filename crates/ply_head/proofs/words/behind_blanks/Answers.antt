use Rattle.std.proofs.Common.{sym, ◌∙◌}
use Rattle.ply_head.proofs.WordLemmas.{blank_next}
use Rattle.ply_head.proofs.words.behind_blanks.Goals as goal

pub loop-position-preserved : goal.loop-position-preserved
loop-position-preserved c =
    blank_next c.args.line.now c.loop-position.position c.loop-position-test.true
    (sym c.is_blank_byte.ensures ∙ c.if-not-is_blank_byte.false) c.loop-position.invariant
