-- There is a facet of the fan, it can be rotated, and with the new cells each vertex is still one of a cell's. Of the cells in
-- conflict take the one that is lowest over the new vertex. The vertex is on the inner side of one of its facets, since the
-- four sides sum to the cell. A cell across that facet would be lower there, for a step away from a place goes down; so it
-- is not in conflict, and the facet is the fan's. A vertex is one of some cell's with the new one in, and that is a cell
-- that stays, or one over the fan.
-- Stands on: Cover, Insert and Fan.
use Rattle.std.proofs.Common.{ℕ, ◌≡◌, ◌<◌, refl, ap, sym, subst, ◌∙◌, ◌⊎◌, inl, inr, ⊎_elim, arith, true, false, int_lt}
use Rattle.std.proofs.Common.{true≢false, pos, ◌+ℤ◌, ◌*ℤ◌, ◌≤ℤ◌, ◌<ℤ◌, [], ◌∷◌}
use Rattle.std.proofs.lemmas.Int.{ints, by_lt_z}
use lib.IntN.{*ℤ_comm}
use Rattle.geo_sign.specs.Polynomial.{product, sum, variable}
use Rattle.geo_sign.proofs.Ring.{ring}
use Rattle.geo_sign.specs.Orientation.{orientation}
use Rattle.geo_sign.specs.Point.{Point}
use Rattle.geo_sign.specs.Rational.{rational, RationalPoint, side}
use Rattle.geo_sign.proofs.Written.{coordinates, orientation', RationalSymbols, side', symbols, A, B, C, D}
use Rattle.geo_sign.specs.Cells.{IsCell}
use Rattle.geo_sign.specs.Tetrahedron.{Tetrahedron, tetrahedron}
use Rattle.geo_sign.specs.Vertices.{Has, orientation_of, power_of, Vertices}
use Rattle.geo_sign.specs.Boxes.{with_vertex}
use Rattle.cell_laws.specs.Fans.{IsOnFan}
use Rattle.cell_laws.specs.Lifts.{lift_of}
use Rattle.geo_sign.specs.Writings.{IsVertexOf, IsRewritten}
use Rattle.geo_sign.proofs.Rewritings.{IsCellOf, orientation_at, power_at, same_cell, same_orientation, same_power, same_vertex}
use Rattle.geo_sign.proofs.Rewritings.{spin_cell}
use Rattle.geo_sign.proofs.SignTests.{below_true, below_is}
use Rattle.cell_laws.proofs.Best.{best, IsBest}
use Rattle.cell_laws.proofs.Cover.{Certified, certified, certified_full, each_vertex}
use Rattle.cell_laws.proofs.Fan.{across_above, cell_fan, fan_cell, stays, was_cell}
use Rattle.cell_laws.proofs.Flood.{move}
use Rattle.cell_laws.proofs.Identities.{three_lifts}
use Rattle.cell_laws.proofs.Insert.{IsNoneOf, last, of_or_not}
use Rattle.cell_laws.proofs.Order.{mul_positive}
use Rattle.cell_laws.proofs.Regions.{IsConvex, IsGeneric, IsInner}
use Rattle.cell_laws.proofs.Ways.{beside, same_lift}

pub fan_spin : (v : Vertices) (p a b c : ℕ) → IsOnFan v p a b c → IsOnFan v p b c a
fan_spin v p a b c f =
    record {
      apex = f.apex;
      cell = spin_cell v (tetrahedron a b c f.apex) f.cell;
      conflict =
          subst (λ t. t <ℤ pos 0)
          (sym (same_power v p (tetrahedron a b c f.apex) (tetrahedron b c a f.apex) (true ∷ [], refl))) f.conflict;
      outside = outside;
    }
  where
    outside : (e : ℕ) → IsCell v b a c e → pos 0 ≤ℤ power_of v b a c e p
    outside e k =
        let m = f.outside e (spin_cell v (tetrahedron b a c e) k) in
        subst (λ t. pos 0 ≤ℤ t) (same_power v p (tetrahedron b a c e) (tetrahedron a c b e) (true ∷ [], refl)) m

-- the sides sum to the cell
sides_over :
    (a b c d : Point) (q : RationalPoint) →
    side b d c q +ℤ side a c d q +ℤ side a d b q +ℤ side a b c q ≡ orientation a b c d *ℤ q.over
unfolding side orientation
sides_over a b c d q =
    let Q : RationalSymbols = record { at = symbols 12; over = variable 15 } in
    ring (coordinates a (coordinates b (coordinates c (coordinates d (coordinates q.at (q.over ∷ []))))))
    (sum (sum (sum (side' B D C Q) (side' A C D Q)) (side' A D B Q)) (side' A B C Q))
    (product (orientation' A B C D) (variable 15)) tt

-- a step away from q goes down
step_away :
    (v : Vertices) → IsGeneric v → (a b c d e : ℕ) (q : RationalPoint) → IsCell v a b c d → IsCell v a c b e
    → pos 0 <ℤ beside v a b c q
    → (orientation_of v a b c d *ℤ lift_of v (tetrahedron a c b e) q)
    <ℤ (orientation_of v a c b e *ℤ lift_of v (tetrahedron a b c d) q)
step_away v g a b c d e q k z h =
    let t = three_lifts (v.at a) (v.at b) (v.at c) (v.at d) (v.at e) q (v.high a) (v.high b) (v.high c) (v.high d) (v.high e) in
    let m = mul_positive (power_of v a b c d e) (beside v a b c q) (across_above v g a b c d e k z) h in
    omega (arith, ints, t, m)

abbrev Somewhere : Vertices → ℕ → Type 0
Somewhere v p = (a b c : ℕ) × IsOnFan v p a b c

lowest :
    (v : Vertices) → IsGeneric v → (p : ℕ) (q : RationalPoint) → pos 0 <ℤ q.over → (x : Certified v) →
    IsBest (λ y. int_lt (power_at v y.0 p) (pos 0)) (λ y. lift_of v y.0 q) (λ y. orientation_at v y.0) (certified v) x →
    Somewhere v p
lowest v g p q o x k =
    let r = x.0 in
    let e = sides_over (v.at r.a) (v.at r.b) (v.at r.c) (v.at r.d) q in
    let m = mul_positive (orientation_at v r) q.over x.1.positive o in
    by_lt_z (pos 0) (beside v r.b r.d r.c q)
    (λ l. (r.b, r.d, r.c, fan r.b r.d r.c r.a (true ∷ false ∷ true ∷ [], refl) l)) (λ i.
    by_lt_z (pos 0) (beside v r.a r.c r.d q)
    (λ l. (r.a, r.c, r.d, fan r.a r.c r.d r.b (true ∷ false ∷ true ∷ false ∷ [], refl) l)) (λ j.
    by_lt_z (pos 0) (beside v r.a r.d r.b q) (λ l. (r.a, r.d, r.b, fan r.a r.d r.b r.c (true ∷ false ∷ [], refl) l)) (λ n.
    by_lt_z (pos 0) (beside v r.a r.b r.c q) (λ l. (r.a, r.b, r.c, fan r.a r.b r.c r.d ([], refl) l)) (λ t.
    absurd (omega (arith, ints, e, m, i, j, n, t))))))
  where
    fan : (a b c d : ℕ) → IsRewritten x.0 (tetrahedron a b c d) → pos 0 <ℤ beside v a b c q → IsOnFan v p a b c
    fan a b c d w l =
        let f : IsCell v a b c d = same_cell v x.0 (tetrahedron a b c d) w x.1 in
        record {
          apex = d;
          cell = f;
          conflict =
              subst (λ t. t <ℤ pos 0) (sym (same_power v p x.0 (tetrahedron a b c d) w))
              (below_true (power_at v x.0 p) k.passes);
          outside = λ e z. by_lt_z (power_of v a c b e p) (pos 0)
              (λ h.
              let full = certified_full v in
              let y = full.all a c b e z in
              let n : (lift_of v x.0 q *ℤ orientation_at v y.0.0) ≤ℤ (lift_of v y.0.0 q *ℤ orientation_at v x.0) =
              k.least y.0 y.1
              (below_is (power_at v y.0.0 p) (subst (λ t. t <ℤ pos 0) (same_power v p y.0.0 (tetrahedron a c b e) y.2) h)) in
              let m : (orientation_at v x.0 *ℤ lift_of v y.0.0 q) <ℤ (orientation_at v y.0.0 *ℤ lift_of v x.0 q) =
              move (orientation_at v y.0.0) (lift_of v y.0.0 q) (orientation_at v x.0) (lift_of v x.0 q)
              (orientation_of v a c b e) (lift_of v (tetrahedron a c b e) q) (orientation_of v a b c d)
              (lift_of v (tetrahedron a b c d) q)
              (same_orientation v y.0.0 (tetrahedron a c b e) y.2) (same_lift v q y.0.0 (tetrahedron a c b e) y.2)
              (same_orientation v x.0 (tetrahedron a b c d) w) (same_lift v q x.0 (tetrahedron a b c d) w)
              (step_away v g a b c d e q f z l) in
              let i = *ℤ_comm (lift_of v x.0 q) (orientation_at v y.0.0) in
              let j = *ℤ_comm (lift_of v y.0.0 q) (orientation_at v x.0) in
              absurd (omega (arith, ints, n, m, i, j)))
              (λ h. h);
        }

-- where there is a cell in conflict there is a fan facet
pub fan_some : (v : Vertices) → IsGeneric v → (p a b c d : ℕ) → IsCell v a b c d → power_of v a b c d p <ℤ pos 0 → Somewhere v p
fan_some v g p a b c d k h =
    let full = certified_full v in
    let x = full.all a b c d k in
    let q = rational (v.at p) in
    ⊎_elim (λ n. absurd
    (true≢false
    (sym (below_is (power_at v x.0.0 p) (subst (λ t. t <ℤ pos 0) (same_power v p x.0.0 (tetrahedron a b c d) x.2) h))
    ∙ n x.0 x.1)))
    (λ (z : (y : Certified v)
    × IsBest (λ y. int_lt (power_at v y.0 p) (pos 0)) (λ y. lift_of v y.0 q) (λ y. orientation_at v y.0) (certified v) y).
    lowest v g p q (omega (arith, ints)) z.0 z.1)
    (best (λ y. int_lt (power_at v y.0 p) (pos 0)) (λ y. lift_of v y.0 q) (λ y. orientation_at v y.0) (certified v)
    (λ y j i. y.1.positive))

-- a vertex is in a fan facet, or in a cell with which p is not in conflict
abbrev pub IsKept : Vertices → (p u : ℕ) → Type 0
IsKept v p u =
    ((a b c : ℕ) × IsOnFan v p a b c × ((u ≡ a) ⊎ ((u ≡ b) ⊎ (u ≡ c))))
    ⊎ ((r : Tetrahedron) × IsCellOf v r × IsVertexOf r u × (pos 0 ≤ℤ power_at v r p))

convex_with : (v : Vertices) (p : ℕ) → IsConvex v → IsConvex (with_vertex v p)
convex_with v p z r u ha hb hc hd hu o l k = z r u ha hb hc hd hu o (record { at = l.at }) k

pub vertex_kept :
    (v : Vertices) → IsGeneric v → IsConvex v → (p : ℕ) → IsInner v p → v.is_in p ≡ false → p < v.count → (a b c d : ℕ) →
    IsCell v a b c d → power_of v a b c d p <ℤ pos 0 → (u : ℕ) → Has v u → IsKept v p u
vertex_kept v g m p i f h a b c d k n u w =
    let z = fan_some v g p a b c d k n in
    let t = fan_cell v p g i h z.0 z.1 z.2 z.3 in
    let y = each_vertex (with_vertex v p) g (convex_with v p m) z.0 z.1 z.2 p t u (stays v p u w) in
    pick y.0 y.1 y.2 (of_or_not y.0 p)
  where
    rest : (r : Tetrahedron) → r.d ≡ p → IsVertexOf r u → (u ≡ r.a) ⊎ ((u ≡ r.b) ⊎ (u ≡ r.c))
    rest r e (inl x) = inl x
    rest r e (inr (inl x)) = inr (inl x)
    rest r e (inr (inr (inl x))) = inr (inr x)
    rest r e (inr (inr (inr x))) = absurd (true≢false (sym w.1 ∙ ap v.is_in (x ∙ e) ∙ f))

    pick : (r : Tetrahedron) → IsCellOf (with_vertex v p) r → IsVertexOf r u → IsVertexOf r p ⊎ IsNoneOf r p → IsKept v p u
    pick r j o (inl q) =
        let x = last r p q in
        let l = same_cell (with_vertex v p) r x.0 x.1 j in
        inl (
          x.0.a,
          x.0.b,
          x.0.c,
          cell_fan v p g i f h x.0.a x.0.b x.0.c (subst (λ y. IsCell (with_vertex v p) x.0.a x.0.b x.0.c y) x.2 l),
          rest x.0 x.2 (same_vertex u r x.0 x.1 o),
        )
    pick r j o (inr q) =
        let x = was_cell v p h r.a r.b r.c r.d j q.a q.b q.c q.d in
        inr (r, x.0, o, x.1)
