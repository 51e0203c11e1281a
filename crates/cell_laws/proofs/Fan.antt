-- The cells that a new vertex makes, and those that it leaves. Four old vertices are a cell with p in exactly where they were
-- one and are clear of p, since the powers do not change. A cell with apex p over a b c has behind a b c either nothing or a
-- cell; the three terms at p, across a b c, say that the cell on p's side of it was in conflict and the one behind was clear:
-- so a b c is a facet of the fan, and back. The edges of the fan meet since the cells with apex p do: the cell across the facet
-- of the edge and p has the apex p too.
-- Stands on: Wrap (the next cell over a facet) and Conflicts.
use Rattle.std.proofs.Common.{ℕ, ◌≡◌, ◌≢◌, ◌<◌, refl, ap, sym, subst, ◌∙◌, ◌⊎◌, inl, inr, ⊎_elim, arith, true, false, ◌||◌}
use Rattle.std.proofs.Common.{◌==◌, true≢false, pos, ◌≤ℤ◌, ◌<ℤ◌}
use Rattle.std.proofs.lemmas.Bool.{eqb-true, or_right, eq-eqb}
use Rattle.std.proofs.lemmas.Int.{ints, by_lt_z}
use Rattle.geo_sign.specs.Cells.{IsCell}
use Rattle.geo_sign.specs.Tetrahedron.{tetrahedron}
use Rattle.geo_sign.specs.Vertices.{Has, orientation_of, power_of, Vertices}
use Rattle.geo_sign.specs.Boxes.{with_vertex}
use Rattle.cell_laws.specs.Fans.{IsOnFan}
use Rattle.geo_sign.proofs.Exchanges.{exchanged_power, flat_b, flat_c, turned_orientation, turned_power}
use Rattle.geo_sign.proofs.Rewritings.{spin_cell, swap_cell}
use Rattle.cell_laws.proofs.Conflicts.{fan_faces, new_clear_before, new_clear_behind}
use Rattle.cell_laws.proofs.Regions.{IsGeneric, IsInner, IsOuter}
use Rattle.cell_laws.proofs.Wrap.{above_not_zero, across, before_not, one_over, outside_above, wrap}
use Rattle.cell_laws.proofs.Identities.{same_side}

-- ---- which vertices are in
pub stays : (v : Vertices) (p u : ℕ) → Has v u → Has (with_vertex v p) u
stays v p u h = (h.0, or_right (u == p) (v.is_in u) h.1)

pub joins : (v : Vertices) (p : ℕ) → p < v.count → Has (with_vertex v p) p
joins v p h = (h, ap (λ b. b || v.is_in p) (eq-eqb p p refl))

pub was : (v : Vertices) (p u : ℕ) → Has (with_vertex v p) u → (u ≡ p) ⊎ Has v u
was v p u h = grind (arith, eqb-true)

-- a vertex that is none of a facet's, over which p lies, was in before
before : (v : Vertices) (p u : ℕ) → Has (with_vertex v p) u → u ≢ p → Has v u
before v p u h n = ⊎_elim (λ e. absurd (n e)) (λ k. k) (was v p u h)

pub own_power : (v : Vertices) (a b c p : ℕ) → power_of v a b c p p ≡ pos 0
own_power v a b c p = grind (arith, ints, exchanged_power)

pub not_in : (v : Vertices) (p u : ℕ) → v.is_in p ≡ false → Has v u → u ≢ p
not_in v p u f h e = true≢false (sym h.1 ∙ ap v.is_in e ∙ f)

-- the vertex across a facet is not in the cell
pub across_above :
    (v : Vertices) → IsGeneric v → (a b c d e : ℕ) → IsCell v a b c d → IsCell v a c b e → pos 0 <ℤ power_of v a b c d e
across_above v g a b c d e k l = grind (arith, ints, turned_orientation, outside_above)

-- p is before a fan facet
pub fan_before :
    (v : Vertices) (p : ℕ) → IsGeneric v → IsInner v p → (a b c : ℕ) → IsOnFan v p a b c → pos 0 <ℤ orientation_of v a b c p
fan_before v p g i a b c f =
    ⊎_elim (λ (o : IsOuter v a b c). i.strict a b c f.apex f.cell.has_d f.cell.positive o)
    (λ (z : (e : ℕ) × IsCell v a c b e).
    let k : IsCell v a c b z.0 = z.1 in
    fan_faces (v.at a) (v.at b) (v.at c) (v.at f.apex) (v.at z.0) (v.at p) (v.high a) (v.high b) (v.high c) (v.high f.apex)
    (v.high z.0) (v.high p) f.cell.positive k.positive
    (across_above v g a b c f.apex z.0 f.cell k) f.conflict (f.outside z.0 k))
    (across v a b c f.apex f.cell)

-- the new cell over a fan facet
pub fan_cell :
    (v : Vertices) (p : ℕ) → IsGeneric v → IsInner v p → p < v.count → (a b c : ℕ) → IsOnFan v p a b c →
    IsCell (with_vertex v p) a b c p
fan_cell v p g i h a b c f =
    record {
      has_a = stays v p a f.cell.has_a;
      has_b = stays v p b f.cell.has_b;
      has_c = stays v p c f.cell.has_c;
      has_d = joins v p h;
      positive = fan_before v p g i a b c f;
      clear =
          λ u k. ⊎_elim
          (λ e. let z : power_of v a b c p u ≡ pos 0 = ap (power_of v a b c p) e ∙ own_power v a b c p in
          omega (arith, ints, z)) (old u) (was v p u k);
    }
  where
    old : (u : ℕ) → Has v u → pos 0 ≤ℤ power_of v a b c p u
    old u k =
        by_lt_z (orientation_of v a b c u) (pos 0)
        (λ l. ⊎_elim (λ (o : IsOuter v a b c). let m = o u k in absurd (omega (arith, ints, l, m)))
        (λ (z : (e : ℕ) × IsCell v a c b e).
        let w : IsCell v a c b z.0 = z.1 in
        new_clear_behind (v.at a) (v.at b) (v.at c) (v.at z.0) (v.at p) (v.at u) (v.high a) (v.high b) (v.high c) (v.high z.0)
        (v.high p) (v.high u) w.positive (fan_before v p g i a b c f)
        (f.outside z.0 w) (w.clear u k) (let m : orientation_of v a b c u ≤ℤ pos 0 = omega (arith, ints) in m))
        (across v a b c f.apex f.cell))
        (λ l. new_clear_before (v.at a) (v.at b) (v.at c) (v.at f.apex) (v.at p) (v.at u) (v.high a) (v.high b) (v.high c)
        (v.high f.apex) (v.high p) (v.high u) f.cell.positive (fan_before v p g i a b c f)
        f.conflict (f.cell.clear u k) l)

-- and no other cell has the new vertex
pub cell_fan :
    (v : Vertices) (p : ℕ) → IsGeneric v → IsInner v p → v.is_in p ≡ false → p < v.count → (a b c : ℕ) →
    IsCell (with_vertex v p) a b c p → IsOnFan v p a b c
cell_fan v p g i f h a b c t =
    let q = before_not v a b c p (above_not_zero (orientation_of v a b c p) t.positive) in
    let ha : Has v a = before v p a t.has_a (λ e. q.0 (sym e)) in
    let hb : Has v b = before v p b t.has_b (λ e. q.1 (sym e)) in
    let hc : Has v c = before v p c t.has_c (λ e. q.2 (sym e)) in
    pick (wrap v a b c ha hb hc (record {
      base = orientation_of v a b c p;
      weight = power_of v a b c p;
      base_positive = t.positive;
      not_negative = λ u k. t.clear u (stays v p u k);
      is =
          λ d u. same_side (v.at a) (v.at b) (v.at c) (v.at d) (v.at p) (v.at u) (v.high a) (v.high b) (v.high c) (v.high d)
          (v.high p) (v.high u);
    }))
  where
    pick : ((u : ℕ) → Has v u → orientation_of v a b c u ≤ℤ pos 0) ⊎ ((d : ℕ) × IsCell v a b c d) → IsOnFan v p a b c
    pick (inl n) =
        let o : IsOuter v a c b =
        λ u k. (let e = turned_orientation (v.at a) (v.at b) (v.at c) (v.at u) in let m = n u k in omega (arith, ints, e, m)) in
        let m = i.weak a c b o in
        let e = turned_orientation (v.at a) (v.at b) (v.at c) (v.at p) in
        let l = t.positive in
        absurd (omega (arith, ints, m, e, l))
    pick (inr z) =
        let j : IsCell v a b c z.0 = z.1 in
        let x =
        exchanged_power (v.at a) (v.at b) (v.at c) (v.at z.0) (v.at p) (v.high a) (v.high b) (v.high c) (v.high z.0)
        (v.high p) in
        let y : pos 0 <ℤ power_of v a b c p z.0 =
        outside_above (with_vertex v p) g a b c p z.0 t (stays v p z.0 j.has_d)
        (above_not_zero (orientation_of v a b c z.0) j.positive) (not_in v p z.0 f j.has_d) in
        record {
          apex = z.0;
          cell = j;
          conflict = omega (arith, ints, x, y);
          outside = λ e w.
              (let r =
              exchanged_power (v.at a) (v.at c) (v.at b) (v.at p) (v.at e) (v.high a) (v.high c) (v.high b) (v.high p)
              (v.high e) in
              let b =
              turned_power (v.at a) (v.at b) (v.at c) (v.at p) (v.at e) (v.high a) (v.high b) (v.high c) (v.high p)
              (v.high e) in
              let m = t.clear e (stays v p e w.has_d) in
              omega (arith, ints, r, b, m));
        }

-- ---- edges
-- each directed edge's reverse is in the fan too
pub fan_next :
    (v : Vertices) (p : ℕ) → IsGeneric v → IsInner v p → v.is_in p ≡ false → p < v.count → (a b c : ℕ) → IsOnFan v p a b c →
    (x : ℕ) × IsOnFan v p b a x
fan_next v p g i f h a b c k =
    let t : IsCell (with_vertex v p) a b c p = fan_cell v p g i h a b c k in
    let t' : IsCell (with_vertex v p) a p b c = turn_cell (with_vertex v p) a b c p t in
    ⊎_elim (λ (o : IsOuter (with_vertex v p) a p b).
    let l =
    i.strict a p b c
    (before v p c t.has_c
    (λ e. absurd
    (let m = t.positive in
    let z = flat_c (v.at a) (v.at b) (v.at c) in
    let r : pos 0 <ℤ orientation_of v a b c c = subst (λ x. pos 0 <ℤ orientation_of v a b c x) (sym e) m in
    omega (arith, ints, z, r)))) t'.positive (λ u y. o u (stays v p u y)) in
    let z = flat_b (v.at a) (v.at p) (v.at b) in
    absurd (omega (arith, ints, l, z)))
    (λ (z : (e : ℕ) × IsCell (with_vertex v p) a b p e).
    (z.0, cell_fan v p g i f h b a z.0 (swap_cell (with_vertex v p) (tetrahedron a b p z.0) z.1)))
    (across (with_vertex v p) a p b c t')
  where
    turn_cell : (v : Vertices) (a b c p : ℕ) → IsCell v a b c p → IsCell v a p b c
    turn_cell v a b c p t = spin_cell v (tetrahedron b a p c) (swap_cell v (tetrahedron a b c p) t)

-- and each directed edge is in one fan facet
pub fan_once :
    (v : Vertices) (p : ℕ) → IsGeneric v → IsInner v p → p < v.count → (a b c d : ℕ) → IsOnFan v p a b c → IsOnFan v p a b d → c ≡ d
fan_once v p g i h a b c d k l =
    one_over (with_vertex v p) g b a p c d (swap_cell (with_vertex v p) (tetrahedron a b c p) (fan_cell v p g i h a b c k))
    (swap_cell (with_vertex v p) (tetrahedron a b d p) (fan_cell v p g i h a b d l))

-- the cells without p are those with which it is not in conflict
pub stays_cell :
    (v : Vertices) (p : ℕ) → (a b c d : ℕ) → IsCell v a b c d → pos 0 ≤ℤ power_of v a b c d p → IsCell (with_vertex v p) a b c d
stays_cell v p a b c d k n = grind (arith, ints, stays, was)

pub was_cell :
    (v : Vertices) (p : ℕ) → p < v.count → (a b c d : ℕ) → IsCell (with_vertex v p) a b c d → a ≢ p → b ≢ p → c ≢ p → d ≢ p →
    IsCell v a b c d × (pos 0 ≤ℤ power_of v a b c d p)
was_cell v p h a b c d k na nb nc nd = grind (arith, ints, before, stays, joins)
