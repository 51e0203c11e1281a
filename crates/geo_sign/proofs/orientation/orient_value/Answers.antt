use Rattle.std.proofs.Common.{arith, ap₂, ◌∙◌, ◌^◌, ◌<◌, ℤ, subst, unsigned_abs}
use mir.Syntax.{w128}
use Rattle.geo_sign.specs.Point.{cross, dot}
use Rattle.geo_sign.specs.Orientation.{orientation}
use Rattle.geo_sign.proofs.Bounds.{held, held_kept}
use Rattle.geo_sign.proofs.orientation.orient_value.Goals as goal

pub returns-clause-value : goal.returns-clause-value
unfolding orientation
returns-clause-value c =
    (held_kept w128 (held _ _ c.dot.ensures.bound) tt).is ∙ c.dot.ensures.value
    ∙ ap₂ (λ p q. dot p q) (c.cross.ensures.value ∙ ap₂ (λ p q. cross p q) c.to.ensures.value c.to-2.ensures.value)
    c.to-3.ensures.value

pub returns-clause-bound : goal.returns-clause-bound
unfolding orientation
returns-clause-bound c =
    subst (λ (z : ℤ). unsigned_abs z < 2 ^ 75)
    (c.dot.ensures.value
    ∙ ap₂ (λ p q. dot p q) (c.cross.ensures.value ∙ ap₂ (λ p q. cross p q) c.to.ensures.value c.to-2.ensures.value)
    c.to-3.ensures.value)
    (omega (arith, c.dot.ensures.bound))
