-- The sum of three products in 128 bits.
--
-- A coordinate within 2^49 times one within 2^24 is within 2^73 (one), two such products are within 2^74 (two) and three
-- within 3 * 2^73 (three). So neither sum wraps, and what the code holds is the product of the vectors that the two are
-- seen as.
use Rattle.std.proofs.Common.{◌≡◌, ap₂, ◌∙◌, ◌^◌, ◌*◌, ℤ, ◌+ℤ◌, ◌*ℤ◌, ◌≤◌, unsigned_abs}
use mir.Syntax.{w64, w128}
use Rattle.geo_sign.specs.Point.{Point, point, IsWithin, dot}
use Rattle.geo_sign.proofs.Bounds.{Held, kept, held_kept, held_add, fits_held, within_held, within_of, held_product}
use Rattle.geo_sign.proofs.vector.Vector.dot.Goals as goal

-- a product, and sums of two and of three, as the code computes them
one : (a b r : ℤ) → r ≡ kept w64 a *ℤ kept w64 b → unsigned_abs a ≤ 2 ^ 49 → unsigned_abs b ≤ 2 ^ 24
    → Held (2 ^ 73) (kept w128 r) (a *ℤ b)
one a b r e h k =
    let read : Held (2 ^ 73) (kept w64 a *ℤ kept w64 b) (a *ℤ b) = held_product w64 a b h k tt tt in
    let widened : Held (2 ^ 73) r (a *ℤ b) = record { is = e ∙ read.is; within = read.within } in
    held_kept w128 widened tt

two : (u v : Point) (r s : ℤ) → r ≡ kept w64 u.x *ℤ kept w64 v.x → s ≡ kept w64 u.y *ℤ kept w64 v.y → IsWithin (2 ^ 49) u
    → IsWithin (2 ^ 24) v
    → Held (2 ^ 74) (kept w128 r +ℤ kept w128 s) (u.x *ℤ v.x +ℤ u.y *ℤ v.y)
two u v r s d e h k = held_add (one u.x v.x r d h.x_within k.x_within) (one u.y v.y s e h.y_within k.y_within)

three : (u v : Point) (r s t : ℤ) → r ≡ kept w64 u.x *ℤ kept w64 v.x → s ≡ kept w64 u.y *ℤ kept w64 v.y
    → t ≡ kept w64 u.z *ℤ kept w64 v.z → IsWithin (2 ^ 49) u → IsWithin (2 ^ 24) v
    → Held (3 * 2 ^ 73) (kept w128 (kept w128 r +ℤ kept w128 s) +ℤ kept w128 t) (dot u v)
three u v r s t d e f h k = held_add (held_kept w128 (two u v r s d e h k) tt) (one u.z v.z t f h.z_within k.z_within)

pub overflow_add-result : goal.overflow_add-result
overflow_add-result c =
    fits_held w128
    (two (point c.self.inside.x c.self.inside.y c.self.inside.z) (point c.other.inside.x c.other.inside.y c.other.inside.z) _ _
    c.widened_product.ensures c.widened_product-2.ensures (within_of _ _ _ c.self.view_is c.requires.first)
    (within_of _ _ _ c.other.view_is c.requires.second)) tt

pub overflow_add-result-2 : goal.overflow_add-result-2
overflow_add-result-2 c =
    fits_held w128
    (three (point c.self.inside.x c.self.inside.y c.self.inside.z) (point c.other.inside.x c.other.inside.y c.other.inside.z) _
    _ _ c.widened_product.ensures c.widened_product-2.ensures c.widened_product-3.ensures
    (within_of _ _ _ c.self.view_is c.requires.first) (within_of _ _ _ c.other.view_is c.requires.second)) tt

pub returns-clause-value : goal.returns-clause-value
returns-clause-value c =
    (held_kept w128
    (three (point c.self.inside.x c.self.inside.y c.self.inside.z) (point c.other.inside.x c.other.inside.y c.other.inside.z) _
    _ _ c.widened_product.ensures c.widened_product-2.ensures c.widened_product-3.ensures
    (within_of _ _ _ c.self.view_is c.requires.first) (within_of _ _ _ c.other.view_is c.requires.second)) tt).is
    ∙ ap₂ (λ p q. dot p q) c.self.view_is c.other.view_is

pub returns-clause-bound : goal.returns-clause-bound
returns-clause-bound c =
    within_held
    (held_kept w128
    (three (point c.self.inside.x c.self.inside.y c.self.inside.z) (point c.other.inside.x c.other.inside.y c.other.inside.z) _
    _ _ c.widened_product.ensures c.widened_product-2.ensures c.widened_product-3.ensures
    (within_of _ _ _ c.self.view_is c.requires.first) (within_of _ _ _ c.other.view_is c.requires.second)) tt)
