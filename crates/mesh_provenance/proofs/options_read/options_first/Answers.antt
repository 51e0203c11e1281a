use Rattle.std.proofs.Common.{List, ℕ, ◌≡◌, ◌++◌, subst}
use Rattle.line_text.proofs.Kept.{IfNone-holds}
use Rattle.line_text.proofs.Parts.{behind_word}
use Rattle.mesh_provenance.proofs.OptionForms.{none_after_pieces, none_without_pieces}
use Rattle.mesh_provenance.proofs.options_read.options_first.Goals as goal

pub returns-in_err-number-in-Some-clause-none : goal.returns-in_err-number-in-Some-clause-none
returns-in_err-number-in-Some-clause-none c =
    IfNone-holds _ _
    (none_after_pieces c.args.text.now c.in-Some.rest.now (behind_word _ _ _ _ c.pieces.ensures c.in-Some.ensures.some)
    c.in_err-number-in-Some.ensures.none)

pub returns-in_err-split-in-None-clause-none : goal.returns-in_err-split-in-None-clause-none
returns-in_err-split-in-None-clause-none c =
    IfNone-holds _ _
    (none_without_pieces c.args.text.now
    (subst (λ (w : List ℕ). (rest : List ℕ) → ¬ (c.args.text.now ≡ w ++ rest)) c.pieces.ensures c.in-None.ensures.none)
    c.in_err-split-in-None.ensures.none)
