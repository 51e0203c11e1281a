use Rattle.std.proofs.Common.{ap, ◌∙◌, ◌^◌, ◌*◌, ◌+ℤ◌, ◌*ℤ◌}
use mir.Syntax.{w64}
use Rattle.geo_sign.specs.Point.{Point, point, IsWithin, square}
use Rattle.geo_sign.proofs.Bounds.{Held, kept, held_kept, held_add, fits_held, within_held, held_product, within_of}
use Rattle.geo_sign.proofs.vector.Vector.square.Goals as goal

-- the sum of the squares as the code computes it
three_squares : (u : Point) → IsWithin (2 ^ 24) u
    → Held (3 * 2 ^ 48)
    (kept w64 (kept w64 (kept w64 u.x *ℤ kept w64 u.x) +ℤ kept w64 (kept w64 u.y *ℤ kept w64 u.y))
    +ℤ kept w64 (kept w64 u.z *ℤ kept w64 u.z)) (square u)
three_squares u h =
    held_add
    (held_kept w64
    (held_add (held_kept w64 (held_product w64 u.x u.x h.x_within h.x_within tt tt) tt)
    (held_kept w64 (held_product w64 u.y u.y h.y_within h.y_within tt tt) tt)) tt)
    (held_kept w64 (held_product w64 u.z u.z h.z_within h.z_within tt tt) tt)

pub overflow_add-result-2 : goal.overflow_add-result-2
overflow_add-result-2 c =
    fits_held w64
    (three_squares (point c.self.inside.x c.self.inside.y c.self.inside.z) (within_of _ _ _ c.self.view_is c.requires)) tt

pub returns-clause-value : goal.returns-clause-value
returns-clause-value c =
    (held_kept w64
    (three_squares (point c.self.inside.x c.self.inside.y c.self.inside.z) (within_of _ _ _ c.self.view_is c.requires)) tt).is
    ∙ ap (λ p. square p) c.self.view_is

pub returns-clause-bound : goal.returns-clause-bound
returns-clause-bound c =
    within_held
    (held_kept w64
    (three_squares (point c.self.inside.x c.self.inside.y c.self.inside.z) (within_of _ _ _ c.self.view_is c.requires)) tt)
