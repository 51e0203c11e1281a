use Rattle.std.proofs.Common.{arith}
use Rattle.cert_text.proofs.OneRefusal.{refused_so}
use Rattle.cert_text.proofs.read.read_or_refuse.Goals as goal

pub returns-in-Err-clause-refused : goal.returns-in-Err-clause-refused
returns-in-Err-clause-refused c = grind (arith, refused_so)
