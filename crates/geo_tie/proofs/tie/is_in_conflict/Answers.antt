-- The sign of the tied power, in three cases by that of the plain power.
--
-- It is the plain power's sign, or where that is zero the sign of the deciding term of the tie; the tied power itself is
-- never zero, whatever number above the five is its exponent. All of this is `decided`, of which each case gives both
-- halves: true where the power is below zero, and false where it is above.
use Rattle.std.proofs.Common.{ap, ◌∙◌, true, false}
use Rattle.geo_sign.specs.Signs.{first_sign}
use Rattle.geo_sign.specs.Terms.{is_below_zero, deciding_term}
use Rattle.geo_sign.proofs.Ties.{decided, five_kept}
use Rattle.geo_tie.proofs.tie.is_in_conflict.Goals as goal

pub returns-in-Neg : goal.returns-in-Neg
returns-in-Neg c =
    let both =
    decided c.args.a c.args.b c.args.c c.args.d c.args.p true c.requires.apart (five_kept _ _ _ _ _ c.in-Neg.ensures.kept)
    c.requires.positive
    (ap (λ s. is_below_zero (first_sign s (deciding_term c.args.a c.args.b c.args.c c.args.d c.args.p).sign))
    c.in-Neg.ensures.value) in
    record { inside = λ n h. (both n h).0; outside = λ n h. (both n h).1 }

pub returns-in-Zero : goal.returns-in-Zero
returns-in-Zero c =
    let both =
    decided c.args.a c.args.b c.args.c c.args.d c.args.p c.is_below.result c.requires.apart (five_kept _ _ _ _ _ c.in-Zero.ensures.kept)
    c.requires.positive
    (c.is_below.ensures ∙ ap is_below_zero c.tie_sign.ensures
    ∙ ap (λ s. is_below_zero (first_sign s (deciding_term c.args.a c.args.b c.args.c c.args.d c.args.p).sign))
    c.in-Zero.ensures.value) in
    record { inside = λ n h. (both n h).0; outside = λ n h. (both n h).1 }

pub returns-in-Pos : goal.returns-in-Pos
returns-in-Pos c =
    let both =
    decided c.args.a c.args.b c.args.c c.args.d c.args.p false c.requires.apart (five_kept _ _ _ _ _ c.in-Pos.ensures.kept)
    c.requires.positive
    (ap (λ s. is_below_zero (first_sign s (deciding_term c.args.a c.args.b c.args.c c.args.d c.args.p).sign))
    c.in-Pos.ensures.value) in
    record { inside = λ n h. (both n h).0; outside = λ n h. (both n h).1 }
