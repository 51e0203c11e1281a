use Rattle.std.proofs.Common.{ap, sym, subst, ◌∙◌}
use Rattle.geo_sign.specs.Signs.{sign_of, first_sign}
use Rattle.geo_sign.specs.declared.sign.Sign.{Sign}
use Rattle.geo_sign.specs.Rational.{side}
use Rattle.geo_sign.proofs.Exchanges.{point_side}
use Rattle.tetra_walk.specs.declared.goal.Goal.{Goal}
use Rattle.tetra_walk.specs.Goals.{place_of, IsGoal}
use Rattle.tetra_walk.proofs.NearSides.{towards_side, behind_side}
use Rattle.tetra_walk.proofs.goal.Goal.side.Goals as goal

pub returns-in-Point : goal.returns-in-Point
returns-in-Point c =
    let a = c.args in
    c.orient.ensures.value ∙ ap sign_of (sym (point_side a.a a.b a.c c.in-Point.q))
    ∙ ap (λ (g : Goal). sign_of (side a.a a.b a.c (place_of g))) (sym c.in-Point.is)

pub returns-in-Scanner : goal.returns-in-Scanner
returns-in-Scanner c =
    let a = c.args in
    c.side_of_scanner.ensures.value ∙ ap (λ (g : Goal). sign_of (side a.a a.b a.c (place_of g))) (sym c.in-Scanner.is)

pub returns-in-Towards : goal.returns-in-Towards
returns-in-Towards c =
    let a = c.args in let r = c.requires in
    let w = subst (λ (g : Goal). IsGoal g) c.in-Towards.is r.goal in
    c.or.ensures
    ∙ towards_side a.a a.b a.c c.in-Towards.p c.in-Towards.s r.a_within r.b_within r.c_within w.0 w.1 _ _
    c.orient_to.ensures c.side_of_scanner-in-Towards.ensures.value
    ∙ ap (λ (g : Goal). sign_of (side a.a a.b a.c (place_of g))) (sym c.in-Towards.is)

pub returns-in-Behind : goal.returns-in-Behind
returns-in-Behind c =
    let a = c.args in let r = c.requires in
    let w = subst (λ (g : Goal). IsGoal g) c.in-Behind.is r.goal in
    c.or-in-Behind.ensures ∙ ap (λ (x : Sign). first_sign c.orient_to-in-Behind.result x) c.opposite.ensures
    ∙ behind_side a.a a.b a.c c.in-Behind.p c.in-Behind.s r.a_within r.b_within r.c_within w.0 w.1 _ _
    c.orient_to-in-Behind.ensures c.side_of_scanner-in-Behind.ensures.value
    ∙ ap (λ (g : Goal). sign_of (side a.a a.b a.c (place_of g))) (sym c.in-Behind.is)
