use Rattle.std.proofs.Common.{List, ℕ, subst}
use Rattle.line_text.specs.Numbers.{counted, BeginsWithNone}
use Rattle.geo_sign.specs.Numbers.{IsBetween}
use Rattle.line_text.proofs.Kept.{IfNone-holds}
use Rattle.line_text.proofs.Parts.{behind_word}
use Rattle.finish_options.specs.declared.options.TheConstants.{FARTHEST}
use Rattle.mesh_provenance.proofs.OptionForms.{no_steps, no_within}
use Rattle.mesh_provenance.proofs.options_read.numbers_first.Goals as goal

pub returns-in_err-steps-clause-none : goal.returns-in_err-steps-clause-none
returns-in_err-steps-clause-none c =
    IfNone-holds _ _
    (no_steps c.args.text.now c.in_ok-rest.rest.now (behind_word _ _ _ _ c.smooth.ensures c.in_ok-rest.ensures.some)
    c.in_err-steps.ensures.none)

pub returns-in_err-distance-clause-none : goal.returns-in_err-distance-clause-none
returns-in_err-distance-clause-none c =
    IfNone-holds _ _
    (no_within c.args.text.now c.in_ok-rest.rest.now c.in_ok-steps.rest.now c.in_ok-steps.steps
    (behind_word _ _ _ _ c.smooth.ensures c.in_ok-rest.ensures.some) c.in_ok-steps.ensures.some.0 c.in_ok-steps.ensures.some.1
    (subst (λ (w : List ℕ). BeginsWithNone (IsBetween 1 FARTHEST) (counted w) c.in_ok-steps.rest.now) c.within.ensures
    c.in_err-distance.ensures.none))
