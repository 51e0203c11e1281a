-- What the three terms say of a cell in conflict, its neighbor, and the cell that takes its place.
-- Stands on: Identities and Order alone; it speaks of points and heights.
use Rattle.std.proofs.Common.{◌≡◌, ap, ◌∙◌, arith, ℤ, pos, ◌*ℤ◌, neg_ℤ, ◌≤ℤ◌, ◌<ℤ◌}
use Rattle.std.proofs.lemmas.Int.{ints, by_lt_z}
use lib.IntN.{*ℤ_comm}
use Rattle.geo_sign.specs.Orientation.{orientation}
use Rattle.geo_sign.specs.Point.{Point}
use Rattle.geo_sign.specs.Power.{power}
use Rattle.geo_sign.proofs.Exchanges.{turned_power, turned_orientation}
use Rattle.geo_sign.proofs.RingLaws.{neg-*ℤ, *ℤ-neg}
use Rattle.cell_laws.proofs.Identities.{three_terms}
use Rattle.cell_laws.proofs.Order.{factor_above, factor_below, mul_below, mul_not_above, mul_not_negative}

-- a fan facet faces p
pub fan_faces : (a b c d e p : Point) (ha hb hc hd he hp : ℤ) → pos 0 <ℤ orientation a b c d → pos 0 <ℤ orientation a c b e
    → pos 0 <ℤ power a b c d e ha hb hc hd he → power a b c d p ha hb hc hd hp <ℤ pos 0
    → pos 0 ≤ℤ power a c b e p ha hc hb he hp → pos 0 <ℤ orientation a b c p
fan_faces a b c d e p ha hb hc hd he hp v w x y z =
    let s = three_terms a b c d e p ha hb hc hd he hp in
    let v' : pos 0 ≤ℤ orientation a b c d = omega (arith, ints) in
    let t = mul_not_negative (orientation a b c d) (power a c b e p ha hc hb he hp) v' z in
    let u = mul_below (orientation a c b e) (power a b c d p ha hb hc hd hp) w y in
    factor_above (power a b c d e ha hb hc hd he) (orientation a b c p) x (omega (arith, ints, s, t, u))

-- the cell across a facet that does not face p is in conflict too
pub conflict_across : (a b c d e p : Point) (ha hb hc hd he hp : ℤ) → pos 0 <ℤ orientation a b c d
    → pos 0 <ℤ orientation a c b e
    → pos 0 <ℤ power a b c d e ha hb hc hd he → power a b c d p ha hb hc hd hp <ℤ pos 0 → orientation a b c p ≤ℤ pos 0
    → power a c b e p ha hc hb he hp <ℤ pos 0
conflict_across a b c d e p ha hb hc hd he hp v w x y z =
    let s = three_terms a b c d e p ha hb hc hd he hp in
    let x' : pos 0 ≤ℤ power a b c d e ha hb hc hd he = omega (arith, ints) in
    let t = mul_not_above (power a b c d e ha hb hc hd he) (orientation a b c p) x' z in
    let u = mul_below (orientation a c b e) (power a b c d p ha hb hc hd hp) w y in
    factor_below (orientation a b c d) (power a c b e p ha hc hb he hp) v (omega (arith, ints, s, t, u))

-- no vertex u on v's side of the facet is in conflict with the new cell a b c p
pub new_clear_before : (a b c d p u : Point) (ha hb hc hd hp hu : ℤ) → pos 0 <ℤ orientation a b c d
    → pos 0 <ℤ orientation a b c p
    → power a b c d p ha hb hc hd hp <ℤ pos 0 → pos 0 ≤ℤ power a b c d u ha hb hc hd hu → pos 0 ≤ℤ orientation a b c u
    → pos 0 ≤ℤ power a b c p u ha hb hc hp hu
new_clear_before a b c d p u ha hb hc hd hp hu v w x y z =
    let s = three_terms a b c d p u ha hb hc hd hp hu in
    let P = power a b c p u ha hb hc hp hu in
    let O = orientation a b c p in
    let f : orientation a b c d *ℤ power a c b p u ha hc hb hp hu ≡ neg_ℤ (orientation a b c d *ℤ P) =
    ap (λ y. orientation a b c d *ℤ y) (turned_power a b c p u ha hb hc hp hu) ∙ *ℤ-neg (orientation a b c d) P in
    let g : orientation a c b p *ℤ power a b c d u ha hb hc hd hu ≡ neg_ℤ (O *ℤ power a b c d u ha hb hc hd hu) =
    ap (λ y. y *ℤ power a b c d u ha hb hc hd hu) (turned_orientation a b c p) ∙ neg-*ℤ O (power a b c d u ha hb hc hd hu) in
    let w' : pos 0 ≤ℤ O = omega (arith, ints) in
    let t = mul_not_negative O (power a b c d u ha hb hc hd hu) w' y in
    let x' : power a b c d p ha hb hc hd hp ≤ℤ pos 0 = omega (arith, ints) in
    let q = mul_not_above (orientation a b c u) (power a b c d p ha hb hc hd hp) z x' in
    let r = *ℤ_comm (orientation a b c u) (power a b c d p ha hb hc hd hp) in
    by_lt_z P (pos 0)
    (λ l. let m = mul_below (orientation a b c d) P v l in absurd (omega (arith, ints, s, f, g, t, q, r, m)))
    (λ l. l)

-- nor one on the other side
pub new_clear_behind : (a b c e p u : Point) (ha hb hc he hp hu : ℤ) → pos 0 <ℤ orientation a c b e
    → pos 0 <ℤ orientation a b c p
    → pos 0 ≤ℤ power a c b e p ha hc hb he hp → pos 0 ≤ℤ power a c b e u ha hc hb he hu → orientation a b c u ≤ℤ pos 0
    → pos 0 ≤ℤ power a b c p u ha hb hc hp hu
new_clear_behind a b c e p u ha hb hc he hp hu v w x y z =
    let s = three_terms a c b e p u ha hc hb he hp hu in
    let g = turned_orientation a b c u in
    let n : pos 0 ≤ℤ orientation a c b u = omega (arith, ints, g) in
    let w' : pos 0 ≤ℤ orientation a b c p = omega (arith, ints) in
    let t = mul_not_negative (orientation a b c p) (power a c b e u ha hc hb he hu) w' y in
    let q = mul_not_negative (power a c b e p ha hc hb he hp) (orientation a c b u) x n in
    by_lt_z (power a b c p u ha hb hc hp hu) (pos 0)
    (λ l. let m = mul_below (orientation a c b e) (power a b c p u ha hb hc hp hu) v l in
    absurd (omega (arith, ints, s, t, q, m)))
    (λ l. l)
