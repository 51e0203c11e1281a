use Rattle.std.proofs.Common.{arith, ap₂, ◌∙◌}
use Rattle.std.proofs.lemmas.Int.{ints}
use Rattle.geo_sign.specs.Point.{step}
use Rattle.geo_sign.proofs.Bounds.{same_place, within_of}
use Rattle.geo_sign.proofs.point.Point.to.Goals as goal

pub returns-clause-value : goal.returns-clause-value
returns-clause-value c =
    let i = c.self.invariant in let j = c.end.invariant in
    c.new.ensures ∙ same_place _ _ _ _ _ _ (omega (arith, ints, c.from.ensures)) (omega (arith, ints, c.from-2.ensures))
    (omega (arith, ints, c.from-3.ensures)) ∙ ap₂ (λ p q. step p q) c.self.view_is c.end.view_is

pub returns-clause-bound : goal.returns-clause-bound
returns-clause-bound c =
    let i = c.self.invariant in let j = c.end.invariant in
    within_of _ _ _ c.new.ensures
    (record {
      x_within = omega (arith, ints, c.from.ensures);
      y_within = omega (arith, ints, c.from-2.ensures);
      z_within = omega (arith, ints, c.from-3.ensures);
    })
