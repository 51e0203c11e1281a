use Rattle.ply_head.proofs.DigitLemmas.{IsDigits}
use Rattle.ply_head.proofs.statement.count_in.Given as goal

abbrev pub invariant-loop-byte : goal.invariant-loop-byte
invariant-loop-byte l = IsDigits l.word l.byte-index l.value
