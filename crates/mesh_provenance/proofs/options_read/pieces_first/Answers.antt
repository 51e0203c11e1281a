use Rattle.line_text.proofs.Kept.{IfNone-holds}
use Rattle.mesh_provenance.proofs.OptionForms.{none_without_number, none_after_number}
use Rattle.mesh_provenance.proofs.options_read.pieces_first.Goals as goal

pub returns-in_err-number-clause-none : goal.returns-in_err-number-clause-none
returns-in_err-number-clause-none c =
    IfNone-holds _ _ (none_without_number c.args.text.now c.in_err-number.ensures.none)

pub returns-in_err-split-clause-none : goal.returns-in_err-split-clause-none
returns-in_err-split-clause-none c =
    let read = c.in_ok-number in
    IfNone-holds _ _
    (none_after_number c.args.text.now read.rest.now read.number read.ensures.some.0 read.ensures.some.1 read.ensures.some.2
    c.in_err-split.ensures.none)
