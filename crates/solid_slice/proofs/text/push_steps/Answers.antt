use Rattle.line_text.proofs.Kept.{OnErr-holds, front_of_more, front_of_front}
use Rattle.solid_slice.proofs.text.push_steps.Goals as goal

pub returns-in_err-push_step-clause-kept : goal.returns-in_err-push_step-clause-kept
returns-in_err-push_step-clause-kept c =
    OnErr-holds _ _ (front_of_front _ _ _ (front_of_more _ _ _ c.loop-step.invariant) c.in_err-push_step.ensures.kept)
