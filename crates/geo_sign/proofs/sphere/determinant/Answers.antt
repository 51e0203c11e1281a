-- A determinant expanded along the third coordinates: the product of these three with the minors of the first two, which
-- are handed in, the second with the other sign.
--
-- A minor of vectors within 2^24 is within 2^49, so nothing wraps as it is turned round, read and widened (minor_kept,
-- negated, part_is), and the product fits 128 bits. That it is the determinant is `expansion`.
use Rattle.std.proofs.Common.{ap₂, ◌≡◌, ◌≤◌, ◌^◌, ◌∙◌, lit≤, ℤ, pos, ◌-ℤ◌, unsigned_abs}
use mir.Syntax.{w64, w128}
use Rattle.geo_sign.specs.Point.{Point, IsWithin, cross, dot}
use Rattle.geo_sign.proofs.Bounds.{Held, kept, held, held_kept, held_sub, fits_held, within_held, within_of, same_place}
use Rattle.geo_sign.proofs.Bounds.{minor_held}
use Rattle.geo_sign.proofs.Identities.{expansion}
use Rattle.geo_sign.proofs.sphere.determinant.Goals as goal

-- a minor, and a minor with the other sign, as the code computes them
minor_kept : (u v : Point) (m : ℤ) → m ≡ (cross u v).z → IsWithin (2 ^ 24) u → IsWithin (2 ^ 24) v
    → Held (2 ^ 49) (kept w64 m) ((cross u v).z)
minor_kept u v m e h k = held_kept w64 (minor_held u v m e h k) tt

negated : (u v : Point) (m : ℤ) → m ≡ (cross u v).z → IsWithin (2 ^ 24) u → IsWithin (2 ^ 24) v
    → Held (2 ^ 49) (pos 0 -ℤ kept w64 m) (pos 0 -ℤ (cross u v).z)
negated u v m e h k = held_sub (held 0 (pos 0) (lit≤ tt)) (minor_kept u v m e h k)

-- a coordinate that was read
part_is : (n r : ℤ) → r ≡ n → unsigned_abs n ≤ 2 ^ 24 → kept w64 r ≡ n
part_is n r e h = let read : Held (2 ^ 24) r n = record { is = e; within = h } in (held_kept w64 read tt).is

pub overflow_sub-uw : goal.overflow_sub-uw
overflow_sub-uw c =
    fits_held w64 (negated c.args.u c.args.w c.args.uw c.requires.second_minor c.requires.first c.requires.third) tt

pub dot-requires-clause-first : goal.dot-requires-clause-first
dot-requires-clause-first c =
    within_of _ _ _ c.new.ensures
    (record {
      x_within = within_held (minor_kept c.args.v c.args.w c.args.vw c.requires.third_minor c.requires.second c.requires.third);
      y_within =
          within_held
          (held_kept w64 (negated c.args.u c.args.w c.args.uw c.requires.second_minor c.requires.first c.requires.third) tt);
      z_within = within_held (minor_kept c.args.u c.args.v c.args.uv c.requires.first_minor c.requires.first c.requires.second);
    })

pub returns-clause-value : goal.returns-clause-value
returns-clause-value c =
    (held_kept w128 (held _ _ c.dot.ensures.bound) tt).is ∙ c.dot.ensures.value
    ∙ ap₂ (λ p q. dot p q)
    (c.new.ensures
    ∙ same_place _ _ _ _ _ _
    (minor_kept c.args.v c.args.w c.args.vw c.requires.third_minor c.requires.second c.requires.third).is
    (held_kept w64 (negated c.args.u c.args.w c.args.uw c.requires.second_minor c.requires.first c.requires.third) tt).is
    (minor_kept c.args.u c.args.v c.args.uv c.requires.first_minor c.requires.first c.requires.second).is)
    (c.new-2.ensures ∙ same_place _ _ _ _ _ _ (part_is c.args.u.z _ c.z.ensures c.requires.first.z_within)
    (part_is c.args.v.z _ c.z-2.ensures c.requires.second.z_within)
    (part_is c.args.w.z _ c.z-3.ensures c.requires.third.z_within))
    ∙ expansion c.args.u c.args.v c.args.w
