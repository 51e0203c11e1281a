-- The displaced scanner's side by four signs, the first of which that is not zero decides.
--
-- They are the signs of the side of its point and of the three coordinates of the facet's normal: the side of the
-- displaced place is the number with these four digits, each small against the base (scanner_signs). The code reads and
-- widens each coordinate, which keeps its sign (part_sign). Where all four are zero the three points are on one line
-- (side_on_line).
use Rattle.std.proofs.Common.{ap, ap₂, ◌≡◌, ◌≤◌, ◌^◌, ◌∙◌, ℤ, unsigned_abs}
use mir.Syntax.{w64, w128}
use Rattle.geo_sign.specs.Point.{cross, dot}
use Rattle.geo_sign.specs.Signs.{sign_of, first_sign}
use Rattle.geo_sign.proofs.Bounds.{Held, kept, held, held_kept}
use Rattle.geo_sign.proofs.Digits.{scanner_signs, side_bound, side_on_line}
use Rattle.geo_sign.proofs.scanner.side_of_scanner.Goals as goal

-- the sign of a part of the normal, read and widened
part_sign : (n r s : ℤ) → r ≡ n → s ≡ kept w64 r → unsigned_abs n ≤ 2 ^ 49 → sign_of (kept w128 s) ≡ sign_of n
part_sign n r s e f h =
    let read : Held (2 ^ 49) r n = record { is = e; within = h } in
    let widened : Held (2 ^ 49) s n = record { is = f ∙ (held_kept w64 read tt).is; within = h } in
    ap sign_of (held_kept w128 widened tt).is

pub returns-clause-value : goal.returns-clause-value
returns-clause-value c =
    let n = c.cross-normal.ensures.bound in
    c.or-3.ensures
    ∙ ap₂ (λ s t. first_sign s t)
    (c.or-2.ensures
    ∙ ap₂ (λ s t. first_sign s t)
    (c.or.ensures ∙ ap₂ (λ s t. first_sign s t)
    (c.of.ensures ∙ ap sign_of (held_kept w128 (held _ c.dot.result c.dot.ensures.bound) tt).is)
    (c.of-2.ensures ∙ part_sign c.cross-normal.result.x _ _ c.x.ensures c.from.ensures n.x_within))
    (c.of-3.ensures ∙ part_sign c.cross-normal.result.y _ _ c.y.ensures c.from-2.ensures n.y_within))
    (c.of-4.ensures ∙ part_sign c.cross-normal.result.z _ _ c.z.ensures c.from-3.ensures n.z_within)
    ∙ scanner_signs c.args.a c.args.b c.args.c c.args.s c.cross-normal.result c.dot.result
    (c.cross-normal.ensures.value ∙ ap₂ (λ u v. cross u v) c.to.ensures.value c.to-2.ensures.value)
    (c.dot.ensures.value ∙ ap (λ v. dot c.cross-normal.result v) c.to-3.ensures.value) n

pub returns-clause-bound : goal.returns-clause-bound
returns-clause-bound c =
    side_bound c.args.a c.args.b c.args.c c.args.s c.cross-normal.result c.dot.result
    (c.cross-normal.ensures.value ∙ ap₂ (λ u v. cross u v) c.to.ensures.value c.to-2.ensures.value)
    (c.dot.ensures.value ∙ ap (λ v. dot c.cross-normal.result v) c.to-3.ensures.value)
    c.cross-normal.ensures.bound c.dot.ensures.bound

pub returns-clause-zero : goal.returns-clause-zero
returns-clause-zero c =
    side_on_line c.args.a c.args.b c.args.c c.args.s c.cross-normal.result
    (c.cross-normal.ensures.value ∙ ap₂ (λ u v. cross u v) c.to.ensures.value c.to-2.ensures.value) c.cross-normal.ensures.bound
