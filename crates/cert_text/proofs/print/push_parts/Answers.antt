use Rattle.std.proofs.Common.{arith}
use Rattle.line_text.proofs.Kept.{OnErr-holds, front_of_more, front_of_front}
use Rattle.cert_text.proofs.print.push_parts.Goals as goal

pub returns-in_err-push_list-clause-kept : goal.returns-in_err-push_list-clause-kept
returns-in_err-push_list-clause-kept c = grind (arith, OnErr-holds, front_of_front, front_of_more)

pub returns-in_err-push_list-2-clause-kept : goal.returns-in_err-push_list-2-clause-kept
returns-in_err-push_list-2-clause-kept c = grind (arith, OnErr-holds, front_of_front, front_of_more)

pub returns-in_err-push_list-3-clause-kept : goal.returns-in_err-push_list-3-clause-kept
returns-in_err-push_list-3-clause-kept c = grind (arith, OnErr-holds, front_of_front, front_of_more)

pub returns-in_err-extend_from_slice-clause-kept : goal.returns-in_err-extend_from_slice-clause-kept
returns-in_err-extend_from_slice-clause-kept c = grind (arith, OnErr-holds, front_of_front, front_of_more)
