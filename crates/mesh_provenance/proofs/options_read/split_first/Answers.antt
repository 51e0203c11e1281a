use Rattle.line_text.proofs.Kept.{IfNone-holds}
use Rattle.line_text.proofs.Parts.{behind_word}
use Rattle.mesh_provenance.proofs.OptionForms.{none_after_split}
use Rattle.mesh_provenance.proofs.options_read.split_first.Goals as goal

pub returns-in_err-flips-in-Some-clause-none : goal.returns-in_err-flips-in-Some-clause-none
returns-in_err-flips-in-Some-clause-none c =
    IfNone-holds _ _
    (none_after_split c.args.text.now c.in-Some.rest.now (behind_word _ _ _ _ c.split.ensures c.in-Some.ensures.some)
    c.in_err-flips-in-Some.ensures.none)
