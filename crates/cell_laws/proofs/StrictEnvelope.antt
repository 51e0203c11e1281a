-- Over a place, the cell that has it is higher than another which does not have a vertex of it before whose facet the place is: that
-- vertex is above the other's plane, and the difference of the two planes is a sum over the vertices of what each is above it,
-- times its side.
use Rattle.std.proofs.Common.{ℕ, zero, suc, ◌≡◌, arith, ℤ, pos, ◌+ℤ◌, ◌*ℤ◌, ◌≤ℤ◌, ◌<ℤ◌}
use Rattle.std.proofs.lemmas.Int.{ints, by_lt_z}
use Rattle.geo_sign.specs.Places.{IsLyingIn}
use Rattle.geo_sign.specs.Rational.{RationalPoint}
use Rattle.geo_sign.specs.Tetrahedron.{Tetrahedron}
use Rattle.geo_sign.specs.Vertices.{Has, Vertices}
use Rattle.geo_sign.specs.Writings.{IsVertexOf}
use Rattle.geo_sign.proofs.Rewritings.{IsCellOf, orientation_at, power_at}
use Rattle.cell_laws.specs.EnvelopeLaws.{HasOtherBefore, StrictEnvelopeLaw}
use Rattle.cell_laws.specs.Lifts.{lift_of}
use Rattle.cell_laws.proofs.Flood.{envelope_of}
use Rattle.cell_laws.proofs.Heights.{tied_generic}
use Rattle.cell_laws.proofs.Order.{mul_not_negative, mul_positive}
use Rattle.cell_laws.proofs.Regions.{IsGeneric}
use Rattle.cell_laws.proofs.Ways.{beside}

-- a vertex that a cell does not have is above its plane
other_above : (v : Vertices) → IsGeneric v → (t : Tetrahedron) (u : ℕ) → IsCellOf v t → Has v u → ¬ IsVertexOf t u
    → pos 0 <ℤ power_at v t u
other_above v g t u cell has other =
    by_lt_z (pos 0) (power_at v t u) (λ l. l)
    (λ l.
    let clear : pos 0 ≤ℤ power_at v t u = cell.clear u has in
    let zero_is : power_at v t u ≡ pos 0 = omega (arith, ints, l, clear) in
    absurd
    (other
    (g t.a t.b t.c t.d u cell.has_a.0 cell.has_b.0 cell.has_c.0 cell.has_d.0 has.0 cell.positive zero_is)))

higher : (v : Vertices) → IsGeneric v → (t w : Tetrahedron) (q : RationalPoint) (k : ℕ) → IsCellOf v t → IsCellOf v w
    → IsLyingIn v w q → HasOtherBefore v t w q k
    → (orientation_at v w *ℤ lift_of v t q) <ℤ (orientation_at v t *ℤ lift_of v w q)
higher v g t w q k hv hw h before =
    let e = envelope_of v t w q in
    let i = mul_not_negative (power_at v t w.a) (beside v w.b w.d w.c q) (hv.clear w.a hw.has_a) (h.at 0) in
    let j = mul_not_negative (power_at v t w.b) (beside v w.a w.c w.d q) (hv.clear w.b hw.has_b) (h.at 1) in
    let m = mul_not_negative (power_at v t w.c) (beside v w.a w.d w.b q) (hv.clear w.c hw.has_c) (h.at 2) in
    let n = mul_not_negative (power_at v t w.d) (beside v w.a w.b w.c q) (hv.clear w.d hw.has_d) (h.at 3) in
    by k before e i j m n
  where
    Sum : ℤ
    Sum =
        power_at v t w.a *ℤ beside v w.b w.d w.c q +ℤ power_at v t w.b *ℤ beside v w.a w.c w.d q
        +ℤ power_at v t w.c *ℤ beside v w.a w.d w.b q +ℤ power_at v t w.d *ℤ beside v w.a w.b w.c q

    by : (k : ℕ) → HasOtherBefore v t w q k
        → orientation_at v t *ℤ lift_of v w q ≡ orientation_at v w *ℤ lift_of v t q +ℤ Sum
        → pos 0 ≤ℤ (power_at v t w.a *ℤ beside v w.b w.d w.c q)
        → pos 0 ≤ℤ (power_at v t w.b *ℤ beside v w.a w.c w.d q)
        → pos 0 ≤ℤ (power_at v t w.c *ℤ beside v w.a w.d w.b q)
        → pos 0 ≤ℤ (power_at v t w.d *ℤ beside v w.a w.b w.c q)
        → (orientation_at v w *ℤ lift_of v t q) <ℤ (orientation_at v t *ℤ lift_of v w q)
    by zero b e i j m n =
        let p =
        mul_positive (power_at v t w.a) (beside v w.b w.d w.c q) (other_above v g t w.a hv hw.has_a b.other) b.before in
        omega (arith, ints, e, j, m, n, p)
    by (suc zero) b e i j m n =
        let p =
        mul_positive (power_at v t w.b) (beside v w.a w.c w.d q) (other_above v g t w.b hv hw.has_b b.other) b.before in
        omega (arith, ints, e, i, m, n, p)
    by (suc (suc zero)) b e i j m n =
        let p =
        mul_positive (power_at v t w.c) (beside v w.a w.d w.b q) (other_above v g t w.c hv hw.has_c b.other) b.before in
        omega (arith, ints, e, i, j, n, p)
    by (suc (suc (suc k))) b e i j m n =
        let p =
        mul_positive (power_at v t w.d) (beside v w.a w.b w.c q) (other_above v g t w.d hv hw.has_d b.other) b.before in
        omega (arith, ints, e, i, j, m, p)

pub strict_envelope_law : StrictEnvelopeLaw
strict_envelope_law v x t r q k ht hr l before = higher v (tied_generic v x) t r q k ht hr l before
