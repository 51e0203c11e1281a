use Rattle.std.proofs.Common.{List, ℕ, ◌≡◌, ◌++◌, subst}
use Rattle.line_text.proofs.Kept.{IfNone-holds}
use Rattle.line_text.proofs.Parts.{behind_word}
use Rattle.mesh_provenance.proofs.FileCodes.{no_format, no_made}
use Rattle.mesh_provenance.proofs.read.head_first.Goals as goal

pub returns-in_err-rest-2-clause-none : goal.returns-in_err-rest-2-clause-none
returns-in_err-rest-2-clause-none c =
    IfNone-holds _ _
    (no_format c.args.text.now c.in_ok-rest.rest.now (behind_word _ _ _ _ c.first_line.ensures c.in_ok-rest.ensures.some)
    (subst (λ (w : List ℕ). (rest : List ℕ) → ¬ (c.in_ok-rest.rest.now ≡ w ++ rest)) c.format.ensures
    c.in_err-rest-2.ensures.none))

pub returns-clause-none : goal.returns-clause-none
returns-clause-none c =
    no_made c.made_first.result c.args.text.now c.in_ok-rest.rest.now c.in_ok-rest-2.rest.now
    (behind_word _ _ _ _ c.first_line.ensures c.in_ok-rest.ensures.some)
    (behind_word _ _ _ _ c.format.ensures c.in_ok-rest-2.ensures.some) c.made_first.ensures.none
