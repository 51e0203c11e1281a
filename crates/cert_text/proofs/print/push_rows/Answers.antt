use Rattle.line_text.proofs.Kept.{OnErr-holds, front_of_more, front_of_front}
use Rattle.cert_text.proofs.print.push_rows.Goals as goal

pub returns-in_err-push-clause-kept : goal.returns-in_err-push-clause-kept
returns-in_err-push-clause-kept g c =
    OnErr-holds _ _ (front_of_front _ _ _ (front_of_more _ _ _ c.loop-row.invariant) c.in_err-push.ensures.kept)
