use Rattle.std.proofs.Common.{rules, ◌<◌, ◌^◌, arith, length}
use Rattle.line_text.proofs.Kept.{IfNone-holds}
use Rattle.mesh_provenance.proofs.OptionForms.{no_stop, no_token_at, no_other_number}
use Rattle.mesh_provenance.proofs.options_read.number_before_stop.Goals as goal

pub returns-then-stop-text-clause-none : goal.returns-then-stop-text-clause-none
returns-then-stop-text-clause-none c =
    no_stop c.args.text.now (λ k lt. c.stop_of-stop.ensures.before k (omega (arith, c.if-stop-text.true, lt)))

pub returns-in_err-number-clause-none : goal.returns-in_err-number-clause-none
returns-in_err-number-clause-none c =
    let stop = c.stop_of-stop in
    let there : stop.result < length c.args.text.now = omega (arith, stop.ensures.within, c.if-stop-text.false) in
    IfNone-holds _ _
    (no_token_at c.args.text.now stop.result there stop.ensures.before (stop.ensures.found there)
    (λ n h. c.in_err-number.ensures.none n (omega (arith, h.1))))

pub returns-else-is_number_of_pieces-clause-none :
    goal.returns-else-is_number_of_pieces-clause-none
returns-else-is_number_of_pieces-clause-none c =
    let stop = c.stop_of-stop in
    let there : stop.result < length c.args.text.now = omega (arith, stop.ensures.within, c.if-stop-text.false) in
    let fits : c.in_ok-number.number < 2 ^ 64 = search rules in
    no_token_at c.args.text.now stop.result there stop.ensures.before (stop.ensures.found there)
    (no_other_number _ c.in_ok-number.number fits c.in_ok-number.ensures.some c.if-is_number_of_pieces.ensures.no)
