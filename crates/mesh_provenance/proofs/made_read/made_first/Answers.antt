use Rattle.std.proofs.Common.{List, ℕ, ◌≡◌, ◌++◌, subst}
use Rattle.line_text.proofs.Kept.{IfNone-holds}
use Rattle.line_text.proofs.Parts.{behind_word}
use Rattle.mesh_provenance.proofs.MadeCodes.{none_after_simplify, none_of_words, none_after_finish}
use Rattle.mesh_provenance.proofs.made_read.made_first.Goals as goal

pub returns-in_err-options-in-Some-clause-none : goal.returns-in_err-options-in-Some-clause-none
returns-in_err-options-in-Some-clause-none c =
    IfNone-holds _ _
    (none_after_simplify c.args.text.now c.in-Some.rest.now (behind_word _ _ _ _ c.simplify.ensures c.in-Some.ensures.some)
    c.in_err-options-in-Some.ensures.none)

pub returns-in_err-rest-in-None-clause-none : goal.returns-in_err-rest-in-None-clause-none
returns-in_err-rest-in-None-clause-none c =
    IfNone-holds _ _
    (none_of_words c.args.text.now
    (subst (λ (w : List ℕ). (rest : List ℕ) → ¬ (c.args.text.now ≡ w ++ rest)) c.simplify.ensures c.in-None.ensures.none)
    (subst (λ (w : List ℕ). (rest : List ℕ) → ¬ (c.args.text.now ≡ w ++ rest)) c.finish.ensures
    c.in_err-rest-in-None.ensures.none))

pub returns-in_err-options-in-None-clause-none : goal.returns-in_err-options-in-None-clause-none
returns-in_err-options-in-None-clause-none c =
    IfNone-holds _ _
    (none_after_finish c.args.text.now c.in_ok-rest-in-None.rest.now
    (behind_word _ _ _ _ c.finish.ensures c.in_ok-rest-in-None.ensures.some) c.in_err-options-in-None.ensures.none)
