use Rattle.ply_head.proofs.DigitLemmas.{digits_more}
use Rattle.ply_head.proofs.statement.count_in.Goals as goal

pub loop-byte-preserved : goal.loop-byte-preserved
loop-byte-preserved c =
    digits_more c.args.word.now c.loop-byte.byte-index c.loop-byte.value c.loop-byte-test.true c.if-byte-lt48.false
    c.if-byte-gt57.false c.loop-byte.invariant
