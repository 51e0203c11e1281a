use Rattle.scan.proofs.Fronts.{kept, on_err}
use Rattle.scan.proofs.print.push_scanners.Goals as goal

pub returns-in_err-push_spaced-clause-front : goal.returns-in_err-push_spaced-clause-front
returns-in_err-push_spaced-clause-front c = on_err _ (kept _ _ _ _ c.loop-sight.invariant c.in_err-push_spaced.ensures.front)
