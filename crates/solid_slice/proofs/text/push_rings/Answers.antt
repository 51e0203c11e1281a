use Rattle.line_text.proofs.Kept.{OnErr-holds, front_of_more, front_of_front}
use Rattle.solid_slice.proofs.text.push_rings.Goals as goal

pub returns-in_err-push_ring-clause-kept : goal.returns-in_err-push_ring-clause-kept
returns-in_err-push_ring-clause-kept c =
    OnErr-holds _ _ (front_of_front _ _ _ (front_of_more _ _ _ c.loop-ring.invariant) c.in_err-push_ring.ensures.kept)
