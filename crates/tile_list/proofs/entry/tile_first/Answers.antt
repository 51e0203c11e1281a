use Rattle.line_text.proofs.Kept.{IfNone-holds}
use Rattle.tile_list.proofs.Forms.{bad_name, name_utf8, no_high, no_low, no_name}
use Rattle.tile_list.proofs.entry.tile_first.Goals as goal

pub returns-in_err-file-clause-none : goal.returns-in_err-file-clause-none
returns-in_err-file-clause-none c =
    IfNone-holds _ _ (no_name c.args.text.now c.in_ok-rest.rest.now c.in_ok-rest.ensures.some c.in_err-file.ensures.none)

pub returns-then-not-is_file_name-clause-none : goal.returns-then-not-is_file_name-clause-none
returns-then-not-is_file_name-clause-none c =
    bad_name c.args.text.now c.in_ok-rest.rest.now c.in_ok-file.file.now c.in_ok-file.rest.now c.in_ok-rest.ensures.some
    c.in_ok-file.ensures.some.0 c.in_ok-file.ensures.some.1 c.if-not-is_file_name.ensures.no

pub returns-in-Err-clause-none : goal.returns-in-Err-clause-none
returns-in-Err-clause-none c =
    λ t rest h e. c.in-Err.ensures.cases.0 (name_utf8 c.in_ok-file.file.now c.if-not-is_file_name.ensures.yes)

pub returns-in_err-low-clause-none : goal.returns-in_err-low-clause-none
returns-in_err-low-clause-none c =
    IfNone-holds _ _
    (no_low c.args.text.now c.in_ok-rest.rest.now c.in_ok-file.file.now c.in_ok-file.rest.now c.in_ok-rest.ensures.some
    c.in_ok-file.ensures.some.0 c.in_ok-file.ensures.some.1 c.in_err-low.ensures.none)

pub returns-in_err-high-clause-none : goal.returns-in_err-high-clause-none
returns-in_err-high-clause-none c =
    IfNone-holds _ _
    (no_high c.args.text.now c.in_ok-rest.rest.now c.in_ok-file.file.now c.in_ok-file.rest.now c.in_ok-low.rest.now c.in_ok-low.low
    c.in_ok-rest.ensures.some c.in_ok-file.ensures.some.0 c.in_ok-file.ensures.some.1 c.in_ok-low.ensures.boxed
    c.in_ok-low.ensures.text c.in_err-high.ensures.none)
