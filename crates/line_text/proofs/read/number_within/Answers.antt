use Rattle.std.proofs.Common.{arith}
use Rattle.line_text.proofs.Numerals.{under_least}
use Rattle.line_text.proofs.read.number_within.Goals as goal

pub returns-else-n-least-clause-none : goal.returns-else-n-least-clause-none
returns-else-n-least-clause-none c =
    under_least c.args.text.now c.in_ok-n.rest.now c.args.end c.args.least c.args.greatest c.in_ok-n.n c.requires (omega arith)
    (omega arith) c.if-n-least.false c.in_ok-n.ensures.some.1
