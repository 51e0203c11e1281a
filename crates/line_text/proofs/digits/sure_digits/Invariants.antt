use Rattle.line_text.proofs.Numerals.{AreRead}
use Rattle.line_text.proofs.digits.sure_digits.Given as goal

abbrev pub invariant-loop-count : goal.invariant-loop-count
invariant-loop-count l = AreRead l.text l.count l.n
