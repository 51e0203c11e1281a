use Rattle.std.proofs.Common.{arith}
use Rattle.line_text.proofs.Kept.{OnErr-holds, front_of_more, front_of_front}
use Rattle.cert_text.proofs.fields.push_three.Goals as goal

pub returns-in_err-push_number-3-clause-kept : goal.returns-in_err-push_number-3-clause-kept
returns-in_err-push_number-3-clause-kept c = grind (arith, OnErr-holds, front_of_front, front_of_more)
