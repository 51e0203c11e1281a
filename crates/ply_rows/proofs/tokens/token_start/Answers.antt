use Rattle.std.proofs.Common.{sym, ◌∙◌}
use Rattle.ply_rows.proofs.TokenLemmas.{tokens_next}
use Rattle.ply_rows.proofs.tokens.token_start.Goals as goal

pub loop-i-preserved : goal.loop-i-preserved
loop-i-preserved c =
    sym (tokens_next c.args.body.now c.loop-i.i c.loop-i-test.true
    (sym c.is_white_space_byte.ensures ∙ c.if-not-is_white_space_byte.false)) ∙ c.loop-i.invariant
