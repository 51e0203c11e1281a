use Rattle.std.proofs.Common.{ap, ◌∙◌}
use Rattle.geo_sign.specs.Orientation.{orientation}
use Rattle.geo_sign.specs.Terms.{Term, leading_term, term}
use Rattle.geo_tie.proofs.tie.tie_sign.Goals as goal

pub returns : goal.returns
returns c =
    let a = c.args.a in let b = c.args.b in let v = c.args.c in let d = c.args.d in let p = c.args.p in
    ap (λ (t : Term). t.sign)
    (c.result.view_is
    ∙ c.leading.ensures
    ∙ ap (λ t. leading_term t (term a.0 (orientation b.1 p.1 v.1 d.1)))
    (c.leading-with_b.ensures
    ∙ ap (λ t. leading_term t (term b.0 (orientation p.1 a.1 v.1 d.1)))
    (c.leading-with_c.ensures ∙ ap (λ t. leading_term t (term v.0 (orientation a.1 p.1 b.1 d.1))) c.leading-with_d.ensures)))
