use Rattle.num_text.proofs.DigitLemmas.{IsValue}
use Rattle.num_text.proofs.digits.value_after.Given as goal

abbrev pub invariant-loop-byte : goal.invariant-loop-byte
invariant-loop-byte l = IsValue l.start l.digits l.byte-index l.value
