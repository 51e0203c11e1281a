use Rattle.std.proofs.Common.{arith}
use Rattle.line_text.proofs.Kept.{OnErr-holds, front_of_more, front_of_front}
use Rattle.cert_text.proofs.print.push_counts.Goals as goal

pub returns-in_err-push_counted-3-clause-kept : goal.returns-in_err-push_counted-3-clause-kept
returns-in_err-push_counted-3-clause-kept c = grind (arith, OnErr-holds, front_of_front, front_of_more)

pub returns-in_err-push_counted-4-clause-kept : goal.returns-in_err-push_counted-4-clause-kept
returns-in_err-push_counted-4-clause-kept c = grind (arith, OnErr-holds, front_of_front, front_of_more)

pub returns-in_err-push_counted-5-clause-kept : goal.returns-in_err-push_counted-5-clause-kept
returns-in_err-push_counted-5-clause-kept c = grind (arith, OnErr-holds, front_of_front, front_of_more)

pub returns-in_err-push_counted-6-clause-kept : goal.returns-in_err-push_counted-6-clause-kept
returns-in_err-push_counted-6-clause-kept c = grind (arith, OnErr-holds, front_of_front, front_of_more)
