-- There is a cell, whatever data points are in. With the corners alone there is one at corner 0. The data points then
-- come in one after another by their numbers: a new one lies in a cell, that cell is in conflict with it, so the fan has a
-- facet, and over it there is a cell of the vertices with the new one. So each place of the box lies in a cell, without
-- more ado.
-- Stands on: Laws (a place lies in a cell, where there is one; the fan).
use Rattle.std.proofs.Common.{ℕ, zero, suc, ◌+◌, ◌-◌, ◌<◌, ◌≤◌, ◌≡◌, refl, sym, ap, subst, ◌∙◌, ⊎_elim, arith, Bool, true}
use Rattle.std.proofs.Common.{false, true≢false, ◌&&◌, ◌||◌, nat_lt, eqb}
use Rattle.std.proofs.lemmas.Bool.{ltb-true, lt-ltb, eqb-true, eq-eqb, and_parts, and_from, or_cases}
use Rattle.geo_sign.specs.declared.point.TheConstants.{CORNERS}
use Rattle.geo_sign.proofs.Booleans.{same_bools}
use Rattle.geo_sign.proofs.CornerCells.{corner_cell, is_clear}
use Rattle.geo_sign.specs.Orientation.{orientation}
use Rattle.geo_sign.specs.Power.{power}
use Rattle.geo_sign.specs.Rational.{rational}
use Rattle.geo_sign.specs.Tetrahedron.{Tetrahedron, tetrahedron}
use Rattle.geo_sign.specs.Vertices.{Vertices, Has}
use Rattle.geo_sign.specs.Boxes.{IsBoxed, IsNew, with_vertex}
use Rattle.geo_sign.specs.Places.{IsInBox}
use Rattle.cell_laws.specs.CellLaws.{PlaceLaw}
use Rattle.geo_sign.proofs.Rewritings.{IsCellOf}
use Rattle.cell_laws.proofs.Laws.{fan_law, found_law, placed}

-- the vertices of which those below k are in, as they were
abbrev front : ℕ → Vertices → Vertices
front k v = record { at = v.at; high = v.high; count = v.count; is_in = λ u. nat_lt u k && v.is_in u }

abbrev having : Vertices → (ℕ → Bool) → Vertices
having v f = record { at = v.at; high = v.high; count = v.count; is_in = f }

-- a cell is one where the same vertices are in
same_in :
    (v : Vertices) (f g : ℕ → Bool) → ((u : ℕ) → u < v.count → f u ≡ g u) → (t : Tetrahedron) → IsCellOf (having v f) t →
    IsCellOf (having v g) t
same_in v f g e t k = grind arith

module _ (v : Vertices) (b : IsBoxed v) where
  front_boxed : (k : ℕ) → CORNERS ≤ k → IsBoxed (front k v)
  front_boxed k l =
      record {
        corner_in =
            λ j m. (let h = b.corner_in j m in (h.0, and_from (nat_lt j k) (v.is_in j) (lt-ltb j k (omega (arith, m, l))) h.1));
        corner_at = b.corner_at;
        data_at = b.data_at;
        apart = b.apart;
        tied = b.tied;
      }

  in_box : (k : ℕ) → CORNERS ≤ k → k < v.count → IsInBox (rational (v.at k))
  in_box k l m =
      let w = b.data_at k l m in
      let x = w.x_within in
      let y = w.y_within in
      let z = w.z_within in
      record { over_positive = omega arith; x_within = omega arith; y_within = omega arith; z_within = omega arith }

  -- a vertex that is not in changes nothing
  without : (k : ℕ) → v.is_in k ≡ false → (u : ℕ) → (nat_lt u k && v.is_in u) ≡ (nat_lt u (suc k) && v.is_in u)
  without k e u =
      same_bools (nat_lt u k && v.is_in u) (nat_lt u (suc k) && v.is_in u)
      (λ h. (let p = and_parts (nat_lt u k) (v.is_in u) h in
      let l = ltb-true u k p.0 in
      and_from (nat_lt u (suc k)) (v.is_in u) (lt-ltb u (suc k) (omega (arith, l))) p.1))
      (λ h.
      (let p = and_parts (nat_lt u (suc k)) (v.is_in u) h in
      let l = ltb-true u (suc k) p.0 in
      let n : u ≡ k → ⊥ = λ q. true≢false (sym p.1 ∙ ap v.is_in q ∙ e) in
      and_from (nat_lt u k) (v.is_in u) (lt-ltb u k (omega (arith, l, n))) p.1))

  with_one : (k : ℕ) → v.is_in k ≡ true → (u : ℕ) → (eqb u k || (nat_lt u k && v.is_in u)) ≡ (nat_lt u (suc k) && v.is_in u)
  with_one k e u =
      same_bools (eqb u k || (nat_lt u k && v.is_in u)) (nat_lt u (suc k) && v.is_in u)
      (λ h.
      ⊎_elim
      (λ (i : eqb u k ≡ true). let q = eqb-true u k i in
      and_from (nat_lt u (suc k)) (v.is_in u) (lt-ltb u (suc k) (omega (arith, q))) (ap v.is_in q ∙ e))
      (λ (i : (nat_lt u k && v.is_in u) ≡ true). let p = and_parts (nat_lt u k) (v.is_in u) i in
      let l = ltb-true u k p.0 in
      and_from (nat_lt u (suc k)) (v.is_in u) (lt-ltb u (suc k) (omega (arith, l))) p.1)
      (or_cases (eqb u k) (nat_lt u k && v.is_in u) h))
      (λ h. (let p = and_parts (nat_lt u (suc k)) (v.is_in u) h in by (eqb u k) refl (ltb-true u (suc k) p.0) p.1))
    where
      by : (c : Bool) → eqb u k ≡ c → u < suc k → v.is_in u ≡ true → (c || (nat_lt u k && v.is_in u)) ≡ true
      by true i l h = refl
      by false i l h =
          let n : u ≡ k → ⊥ = λ q. true≢false (sym (eq-eqb u k q) ∙ i) in
          and_from (nat_lt u k) (v.is_in u) (lt-ltb u k (omega (arith, l, n))) h

  new_one : (k : ℕ) → CORNERS ≤ k → k < v.count → IsNew (front k v) k
  new_one k l m = record { above = l; below = m; out = by (nat_lt k k && v.is_in k) refl }
    where
      by : (c : Bool) → (nat_lt k k && v.is_in k) ≡ c → (nat_lt k k && v.is_in k) ≡ false
      by true e = let n = ltb-true k k (and_parts (nat_lt k k) (v.is_in k) e).0 in absurd (omega (arith, n))
      by false e = e

  -- one vertex more
  one_more :
      (k : ℕ) → CORNERS ≤ k → k < v.count → (t : Tetrahedron) × IsCellOf (front k v) t →
      (t : Tetrahedron) × IsCellOf (front (suc k) v) t
  one_more k l m c = by (v.is_in k) refl
    where
      by : (d : Bool) → v.is_in k ≡ d → (t : Tetrahedron) × IsCellOf (front (suc k) v) t
      by false e =
          (c.0, same_in v (λ u. nat_lt u k && v.is_in u) (λ u. nat_lt u (suc k) && v.is_in u) (λ u h. without k e u) c.0 c.1)
      by true e =
          let x = front_boxed k l in
          let n = new_one k l m in
          let z = placed (front k v) x c.0.a c.0.b c.0.c c.0.d c.1 (rational (v.at k)) (in_box k l m) in
          let f = found_law (front k v) x k n z.0 z.1 z.2 in
          let g = fan_law (front k v) x k n in
          let i = g.some z.0.a z.0.b z.0.c z.0.d z.1 f in
          let r : IsCellOf (with_vertex (front k v) k) (tetrahedron i.0 i.1 i.2 k) = (g.cells i.0 i.1 i.2).0 i.3 in (
            tetrahedron i.0 i.1 i.2 k,
            same_in v (λ u. eqb u k || (nat_lt u k && v.is_in u)) (λ u. nat_lt u (suc k) && v.is_in u) (λ u h. with_one k e u)
                (tetrahedron i.0 i.1 i.2 k) r,
          )

  corners_only : (u : ℕ) → Has (front 8 v) u → u < 8
  corners_only u h = ltb-true u 8 (and_parts (nat_lt u 8) (v.is_in u) h.1).0

  first_cell : IsCellOf (front 8 v) (tetrahedron 0 1 2 4)
  unfolding orientation power is_clear
  first_cell =
      corner_cell (front 8 v) (front_boxed 8 (omega arith)) (tetrahedron 0 1 2 4) (omega arith) (omega arith) (omega arith)
      (omega arith) corners_only refl refl

  up_to : (n k : ℕ) → k ≡ 8 + n → k ≤ v.count → (t : Tetrahedron) × IsCellOf (front k v) t
  up_to zero k e l = subst (λ j. (t : Tetrahedron) × IsCellOf (front j v) t) (sym e) (tetrahedron 0 1 2 4, first_cell)
  up_to (suc n) k e l =
      let h = up_to n (8 + n) refl (omega (arith, e, l)) in
      let i : suc (8 + n) ≡ k = omega (arith, e) in
      subst (λ j. (t : Tetrahedron) × IsCellOf (front j v) t) i (one_more (8 + n) (omega arith) (omega (arith, e, l)) h)

  all_in : (u : ℕ) → u < v.count → (nat_lt u v.count && v.is_in u) ≡ v.is_in u
  all_in u l = ap (λ c. c && v.is_in u) (lt-ltb u v.count l)

  pub some_cell : (t : Tetrahedron) × IsCellOf v t
  some_cell =
      let c = (b.corner_in 7 (omega arith)).0 in
      let z = up_to (v.count - 8) v.count (omega (arith, c)) (omega arith) in
      (z.0, same_in v (λ u. nat_lt u v.count && v.is_in u) v.is_in all_in z.0 z.1)

pub place_law : PlaceLaw
place_law v b q h = let c = some_cell v b in placed v b c.0.a c.0.b c.0.c c.0.d c.1 q h
