use Rattle.line_text.proofs.Kept.{IfNone-holds}
use Rattle.tile_list.proofs.Forms.{no_second, no_third}
use Rattle.tile_list.proofs.entry.corner_first.Goals as goal

pub returns-in_err-y-clause-none : goal.returns-in_err-y-clause-none
returns-in_err-y-clause-none c =
    IfNone-holds _ _
    (no_second c.args.text.now c.in_ok-x.rest.now c.in_ok-x.x c.args.end c.in_ok-x.ensures.some.0 c.in_ok-x.ensures.some.1
    c.in_err-y.ensures.none)

pub returns-in_err-z-clause-none : goal.returns-in_err-z-clause-none
returns-in_err-z-clause-none c =
    IfNone-holds _ _
    (no_third c.args.text.now c.in_ok-x.rest.now c.in_ok-y.rest.now c.in_ok-x.x c.in_ok-y.y c.args.end c.requires
    c.in_ok-x.ensures.some.0 c.in_ok-y.ensures.some.0 c.in_ok-x.ensures.some.1 c.in_ok-y.ensures.some.1 c.in_err-z.ensures.none)
