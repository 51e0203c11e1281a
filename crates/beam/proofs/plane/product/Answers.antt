use mir.Syntax.{w64}
use Rattle.std.proofs.Common.{◌≡◌, ◌≤◌, ◌^◌, ◌*◌, ℤ, ◌+ℤ◌, ◌*ℤ◌, ◌∙◌, unsigned_abs, refl, ap, sym, subst, arith}
use Rattle.std.proofs.lemmas.Int.{ints}
use Rattle.geo_sign.specs.declared.point.TheConstants.{BOX_LIMIT}
use Rattle.geo_sign.specs.Point.{Point, point, IsWithin, dot}
use Rattle.geo_sign.proofs.Bounds.{Held, kept, held_kept, held_add, fits_held, within_held, held_product, same_place, within_of}
use Rattle.beam.specs.Planes.{vector_of}
use Rattle.beam.proofs.plane.product.Goals as goal

-- the sum of the products as the code computes it
two : (n q : Point) → IsWithin (2 ^ 37) n → IsWithin BOX_LIMIT q
    → Held (2 * 2 ^ 60) (kept w64 (kept w64 n.x *ℤ kept w64 q.x) +ℤ kept w64 (kept w64 n.y *ℤ kept w64 q.y))
    (n.x *ℤ q.x +ℤ n.y *ℤ q.y)
two n q h k =
    held_add (held_kept w64 (held_product w64 n.x q.x h.x_within k.x_within tt tt) tt)
    (held_kept w64 (held_product w64 n.y q.y h.y_within k.y_within tt tt) tt)

three : (n q : Point) → IsWithin (2 ^ 37) n → IsWithin BOX_LIMIT q
    → Held (3 * 2 ^ 60)
    (kept w64 (kept w64 (kept w64 n.x *ℤ kept w64 q.x) +ℤ kept w64 (kept w64 n.y *ℤ kept w64 q.y))
    +ℤ kept w64 (kept w64 n.z *ℤ kept w64 q.z)) (dot n q)
three n q h k =
    held_add (held_kept w64 (two n q h k) tt) (held_kept w64 (held_product w64 n.z q.z h.z_within k.z_within tt tt) tt)

-- the coordinates are those that are read
pub overflow_add-result : goal.overflow_add-result
overflow_add-result c =
    let h = c.requires.short in let k = c.requires.p_within in let n = vector_of c.args.normal in
    let x : c.from.result ≡ c.args.p.x = omega (arith, ints, c.x.ensures, c.from.ensures) in
    let y : c.from-2.result ≡ c.args.p.y = omega (arith, ints, c.y.ensures, c.from-2.ensures) in
    let q = point c.from.result c.from-2.result c.args.p.z in
    fits_held w64 (two n q h (within_of BOX_LIMIT q c.args.p (same_place _ _ _ _ _ _ x y refl) k)) tt

pub overflow_mul-result-3 : goal.overflow_mul-result-3
overflow_mul-result-3 c =
    let k = c.requires.p_within in
    let z : c.from-3.result ≡ c.args.p.z = omega (arith, ints, c.z.ensures, c.from-3.ensures) in
    fits_held w64
    (held_product w64 c.args.normal.z c.from-3.result c.requires.short.z_within
    (subst (λ (u : ℤ). unsigned_abs u ≤ BOX_LIMIT) (sym z) k.z_within) tt tt) tt

pub overflow_add-result-2 : goal.overflow_add-result-2
overflow_add-result-2 c =
    let h = c.requires.short in let k = c.requires.p_within in let n = vector_of c.args.normal in
    let x : c.from.result ≡ c.args.p.x = omega (arith, ints, c.x.ensures, c.from.ensures) in
    let y : c.from-2.result ≡ c.args.p.y = omega (arith, ints, c.y.ensures, c.from-2.ensures) in
    let z : c.from-3.result ≡ c.args.p.z = omega (arith, ints, c.z.ensures, c.from-3.ensures) in
    let q = point c.from.result c.from-2.result c.from-3.result in
    fits_held w64 (three n q h (within_of BOX_LIMIT q c.args.p (same_place _ _ _ _ _ _ x y z) k)) tt

pub returns-clause-value : goal.returns-clause-value
returns-clause-value c =
    let h = c.requires.short in let k = c.requires.p_within in let n = vector_of c.args.normal in
    let x : c.from.result ≡ c.args.p.x = omega (arith, ints, c.x.ensures, c.from.ensures) in
    let y : c.from-2.result ≡ c.args.p.y = omega (arith, ints, c.y.ensures, c.from-2.ensures) in
    let z : c.from-3.result ≡ c.args.p.z = omega (arith, ints, c.z.ensures, c.from-3.ensures) in
    let q = point c.from.result c.from-2.result c.from-3.result in
    let e : q ≡ c.args.p = same_place _ _ _ _ _ _ x y z in
    (held_kept w64 (three n q h (within_of BOX_LIMIT q c.args.p e k)) tt).is ∙ ap (λ (u : Point). dot n u) e

pub returns-clause-bound : goal.returns-clause-bound
returns-clause-bound c =
    let h = c.requires.short in let k = c.requires.p_within in let n = vector_of c.args.normal in
    let x : c.from.result ≡ c.args.p.x = omega (arith, ints, c.x.ensures, c.from.ensures) in
    let y : c.from-2.result ≡ c.args.p.y = omega (arith, ints, c.y.ensures, c.from-2.ensures) in
    let z : c.from-3.result ≡ c.args.p.z = omega (arith, ints, c.z.ensures, c.from-3.ensures) in
    let q = point c.from.result c.from-2.result c.from-3.result in
    within_held (held_kept w64 (three n q h (within_of BOX_LIMIT q c.args.p (same_place _ _ _ _ _ _ x y z) k)) tt)
