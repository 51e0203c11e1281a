use Rattle.std.proofs.Common.{arith}
use Rattle.line_text.proofs.Parts.{behind_word}
use Rattle.cert_text.proofs.StampRefused.{none_fixed}
use Rattle.cert_text.proofs.stamp_read.fixed_first.Goals as goal

pub returns-clause-none : goal.returns-clause-none
returns-clause-none c = grind (arith, none_fixed, behind_word)
