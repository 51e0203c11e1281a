use Rattle.std.proofs.Common.{ap, sym, ◌∙◌, eqb, true≢false, refl}
use Rattle.std.proofs.lemmas.Bool.{eq-eqb}
use Rattle.sight.proofs.Steps.{ahead_there}
use Rattle.sight.proofs.exit.exit.Goals as goal

pub returns-else-eq-clause-some : goal.returns-else-eq-clause-some
returns-else-eq-clause-some c =
    let at = c.args.reached.now.at in
    let only = c.ahead.ensures.only in
    let out =
    ahead_there c.args.t.now c.args.ray.now c.args.reached.now c.ahead.result.side c.in-Some.end c.facts.ensures c.requires.walking
    (c.requires.end c.in-Some.end c.in-Some.is) (λ i. true≢false (sym (eq-eqb at at refl) ∙ ap (eqb at) i ∙ sym c.if-eq.ensures))
    (λ i h. (only i h).0) in
    (out, (only c.ahead.result.side out).1, c.ahead.ensures.image)
