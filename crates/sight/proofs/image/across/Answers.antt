use mir.Syntax.{w64}
use Rattle.std.proofs.Common.{ap, ap₂, sym, ◌∙◌, ◌^◌, ℤ}
use Rattle.geo_sign.specs.Point.{Point, cross}
use Rattle.geo_sign.proofs.Bounds.{held, held_kept}
use Rattle.sight.specs.Images.{along, scaled}
use Rattle.sight.proofs.Images.{first_second, second_third, third_first}
use Rattle.sight.proofs.image.across.Goals as goal

pub ordered-requires-clause-product : goal.ordered-requires-clause-product
ordered-requires-clause-product c =
    let u = along c.args.u in
    ap₂ (λ (a b : Point). cross a b) c.beside_second.ensures.value c.beside_third.ensures.value ∙ second_third u
    ∙ ap (λ (k : ℤ). scaled u k) (sym (held_kept w64 (held (2 ^ 24) u.x c.requires.x_within) tt).is)

pub ordered-requires-then-y-z-clause-product : goal.ordered-requires-then-y-z-clause-product
ordered-requires-then-y-z-clause-product c =
    let u = along c.args.u in
    ap₂ (λ (a b : Point). cross a b) c.beside_third-then-y-z.ensures.value c.beside_first.ensures.value ∙ third_first u
    ∙ ap (λ (k : ℤ). scaled u k) (sym (held_kept w64 (held (2 ^ 24) u.y c.requires.y_within) tt).is)

pub ordered-requires-2-clause-product : goal.ordered-requires-2-clause-product
ordered-requires-2-clause-product c =
    let u = along c.args.u in
    ap₂ (λ (a b : Point). cross a b) c.beside_first-2.ensures.value c.beside_second-2.ensures.value ∙ first_second u
    ∙ ap (λ (k : ℤ). scaled u k) (sym (held_kept w64 (held (2 ^ 24) u.z c.requires.z_within) tt).is)
