-- Each place of the hull lies in a cell, and each vertex is one of a cell's. The cells are a finite list, made by trying all
-- sets of four vertices. Take the one that is highest over the place. Were the place behind one of its facets, then that facet
-- would be no outer one, so there would be a cell across, and it would be higher over the place. A vertex lies in a cell by
-- this, and is one of its four, since it would be in conflict with the cell otherwise.
-- Stands on: Best, Wrap, Fan and Ways.
use Rattle.std.proofs.Common.{[], ℕ, zero, suc, ◌<◌, ◌≤◌, ◌≡◌, refl, sym, subst, ◌⊎◌, inl, inr, ⊎_elim, arith, true, false}
use Rattle.std.proofs.Common.{true≢false, pos, neg_ℤ, ◌*ℤ◌, ◌≤ℤ◌, ◌<ℤ◌, List, ◌∷◌, ◌++◌}
use Rattle.std.proofs.lemmas.Int.{ints, by_lt_z}
use lib.IntN.{*ℤ_comm}
use Rattle.geo_sign.specs.Rational.{rational, RationalPoint}
use Rattle.geo_sign.specs.Cells.{IsCell}
use Rattle.geo_sign.specs.Tetrahedron.{Tetrahedron, tetrahedron}
use Rattle.geo_sign.specs.Vertices.{Has, orientation_of, Vertices}
use Rattle.geo_sign.specs.Places.{IsLyingIn}
use Rattle.cell_laws.specs.Lifts.{lift_of}
use Rattle.cell_laws.specs.Lists.{AreCells, IsFull, IsIn}
use Rattle.geo_sign.specs.Writings.{IsVertexOf, IsRewritten}
use Rattle.geo_sign.proofs.Rewritings.{IsCellOf, orientation_at, power_at, same_cell, same_orientation}
use Rattle.geo_sign.proofs.Exchanges.{point_side}
use Rattle.geo_sign.proofs.RingLaws.{neg-*ℤ}
use Rattle.cell_laws.proofs.Best.{best, IsBest}
use Rattle.cell_laws.proofs.Fan.{across_above}
use Rattle.cell_laws.proofs.Flood.{move}
use Rattle.cell_laws.proofs.Order.{IsLater, walk_step}
use Rattle.cell_laws.proofs.Regions.{IsConvex, IsGeneric, IsOuter}
use Rattle.cell_laws.proofs.Ways.{beside, lying, same_lift}
use Rattle.cell_laws.proofs.Wrap.{across, below, below_has}

-- with each cell the list has those across its facets
pub record IsJoined {X : Type 0} (v : Vertices) (live : List X) (cell : X → Tetrahedron) : Type 0 where
  pub cells : AreCells v live cell
  pub next :
      (x : X) (a b c d e : ℕ) → IsIn live x → IsRewritten (cell x) (tetrahedron a b c d) → IsCell v a c b e →
      (y : X) × IsIn live y × IsRewritten (cell y) (tetrahedron a c b e)

highest :
    {X : Type 0} (v : Vertices) → IsGeneric v → (q : RationalPoint)
    → ((a b c d : ℕ) → IsCell v a b c d → IsOuter v a b c → pos 0 ≤ℤ beside v a b c q)
    → (live : List X) (cell : X → Tetrahedron) → IsJoined v live cell
    → (x : X) → IsBest (λ y. true) (λ y. neg_ℤ (lift_of v (cell y) q)) (λ y. orientation_at v (cell y)) live x
    → IsLyingIn v (cell x) q
highest {X} v g q inside live cell list x k =
    lying v (cell x) q
    (level (cell x).b (cell x).d (cell x).c (cell x).a (true ∷ false ∷ true ∷ [], refl))
    (level (cell x).a (cell x).c (cell x).d (cell x).b (true ∷ false ∷ true ∷ false ∷ [], refl))
    (level (cell x).a (cell x).d (cell x).b (cell x).c (true ∷ false ∷ [], refl))
    (level (cell x).a (cell x).b (cell x).c (cell x).d ([], refl))
  where
    step :
        (a b c d e : ℕ) → IsRewritten (cell x) (tetrahedron a b c d) → IsCell v a b c d → IsCell v a c b e →
        beside v a b c q <ℤ pos 0 → ⊥
    step a b c d e w f z l =
        let y = list.next x a b c d e k.listed w z in
        let m : (neg_ℤ (lift_of v (cell x) q) *ℤ orientation_at v (cell y.0))
        ≤ℤ (neg_ℤ (lift_of v (cell y.0) q) *ℤ orientation_at v (cell x)) = k.least y.0 y.1 refl in
        let n : IsLater (orientation_at v (cell x)) (lift_of v (cell x) q) (orientation_at v (cell y.0))
        (lift_of v (cell y.0) q) =
        move (orientation_at v (cell x)) (lift_of v (cell x) q) (orientation_at v (cell y.0)) (lift_of v (cell y.0) q)
        (orientation_of v a b c d) (lift_of v (tetrahedron a b c d) q) (orientation_of v a c b e)
        (lift_of v (tetrahedron a c b e) q)
        (same_orientation v (cell x) (tetrahedron a b c d) w) (same_lift v q (cell x) (tetrahedron a b c d) w)
        (same_orientation v (cell y.0) (tetrahedron a c b e) y.2) (same_lift v q (cell y.0) (tetrahedron a c b e) y.2)
        (walk_step (v.at a) (v.at b) (v.at c) (v.at d) (v.at e) q (v.high a) (v.high b) (v.high c) (v.high d) (v.high e)
        (across_above v g a b c d e f z) l) in
        let i = neg-*ℤ (lift_of v (cell x) q) (orientation_at v (cell y.0)) in
        let j = neg-*ℤ (lift_of v (cell y.0) q) (orientation_at v (cell x)) in
        let i' = *ℤ_comm (lift_of v (cell x) q) (orientation_at v (cell y.0)) in
        let j' = *ℤ_comm (lift_of v (cell y.0) q) (orientation_at v (cell x)) in
        omega (arith, ints, m, n, i, j, i', j')

    level : (a b c d : ℕ) → IsRewritten (cell x) (tetrahedron a b c d) → pos 0 ≤ℤ beside v a b c q
    level a b c d w =
        let f : IsCell v a b c d = same_cell v (cell x) (tetrahedron a b c d) w (list.cells x k.listed) in
        by_lt_z (beside v a b c q) (pos 0)
        (λ m. absurd
        (⊎_elim (λ (o : IsOuter v a b c). let n = inside a b c d f o in absurd (omega (arith, ints, n, m)))
        (λ (z : (e : ℕ) × IsCell v a c b e). step a b c d z.0 w f z.1 m) (across v a b c d f)))
        (λ l. l)

pub full_joined : {X : Type 0} (v : Vertices) (live : List X) (cell : X → Tetrahedron) → IsFull v live cell
    → IsJoined v live cell
full_joined v live cell f = record { cells = f.cells; next = λ x a b c d e i w k. f.all a c b e k }

-- each place of the hull lies in a cell
pub cover :
    {X : Type 0} (v : Vertices) → IsGeneric v → (q : RationalPoint) →
    ((a b c d : ℕ) → IsCell v a b c d → IsOuter v a b c → pos 0 ≤ℤ beside v a b c q) →
    (live : List X) (cell : X → Tetrahedron) → IsJoined v live cell →
    (x : X) → IsIn live x → (y : X) × IsIn live y × IsLyingIn v (cell y) q
cover {X} v g q inside live cell list x i =
    ⊎_elim (λ n. absurd (true≢false (n x i)))
    (λ (z : (y : X) × IsBest (λ y. true) (λ y. neg_ℤ (lift_of v (cell y) q)) (λ y. orientation_at v (cell y)) live y).
    let k : IsBest (λ y. true) (λ y. neg_ℤ (lift_of v (cell y) q)) (λ y. orientation_at v (cell y)) live z.0 = z.1 in
    (z.0, k.listed, highest v g q inside live cell list z.0 k))
    (best (λ y. true) (λ y. neg_ℤ (lift_of v (cell y) q)) (λ y. orientation_at v (cell y)) live
    (λ y j k. (list.cells y j).positive))

pub lies_of :
    (v : Vertices) → IsConvex v → (r : Tetrahedron) (u : ℕ) → IsCellOf v r → Has v u → IsLyingIn v r (rational (v.at u)) →
    IsVertexOf r u
lies_of v c r u k h l = c r u k.has_a.0 k.has_b.0 k.has_c.0 k.has_d.0 h.0 k.positive l (k.clear u h)

-- each vertex that is in is one of a cell's
pub no_vertex_lost :
    {X : Type 0} (v : Vertices) → IsGeneric v → IsConvex v → (live : List X) (cell : X → Tetrahedron) → IsFull v live cell →
    (x : X) → IsIn live x → (u : ℕ) → Has v u → (y : X) × IsIn live y × IsVertexOf (cell y) u
no_vertex_lost {X} v g c live cell list x i u h =
    let z =
    cover v g (rational (v.at u))
    (λ a b c d k o. subst (λ t. pos 0 ≤ℤ t) (sym (point_side (v.at a) (v.at b) (v.at c) (v.at u))) (o u h)) live cell
    (full_joined v live cell list) x i in
    (z.0, z.1, lies_of v c (cell z.0) u (list.cells z.0 z.1) h z.2)

-- ---- the same with no list: all sets of four are tried
append_has : {X : Type 0} (xs ys : List X) (t : X) → IsIn xs t ⊎ IsIn ys t → IsIn (xs ++ ys) t
append_has [] ys t (inl h) = absurd h
append_has [] ys t (inr h) = h
append_has (x ∷ xs) ys t (inl (inl e)) = inl e
append_has (x ∷ xs) ys t (inl (inr h)) = inr (append_has xs ys t (inl h))
append_has (x ∷ xs) ys t (inr h) = inr (append_has xs ys t (inr h))

abbrev each : {X : Type 0} → (ℕ → List X) → List ℕ → List X
each f [] = []
each f (x ∷ xs) = f x ++ each f xs

each_has : {X : Type 0} (f : ℕ → List X) (xs : List ℕ) (i : ℕ) (t : X) → IsIn xs i → IsIn (f i) t → IsIn (each f xs) t
each_has f [] i t h k = absurd h
each_has {X} f (x ∷ xs) i t (inl e) k = append_has (f x) (each f xs) t (inl (subst (λ j. IsIn (f j) t) (sym e) k))
each_has f (x ∷ xs) i t (inr h) k = append_has (f x) (each f xs) t (inr (each_has f xs i t h k))

-- ---- whether four vertices are a cell
abbrev Decision : Type 0 → Type 0
Decision P = P ⊎ (¬ P)

has_or_not : (v : Vertices) (u : ℕ) → Decision (Has v u)
has_or_not v u = grind (arith, true≢false)

abbrev Clear : Vertices → Tetrahedron → ℕ → Type 0
Clear v r n = (u : ℕ) → u < n → Has v u → pos 0 ≤ℤ power_at v r u

abbrev Unclear : Vertices → Tetrahedron → Type 0
Unclear v r = (u : ℕ) × Has v u × (power_at v r u <ℤ pos 0)

clear_more : (v : Vertices) (r : Tetrahedron) (n : ℕ) → (Has v n → pos 0 ≤ℤ power_at v r n) → Clear v r n → Clear v r (suc n)
clear_more v r n g f u l h = grind (arith, ints)

clear_or_not : (v : Vertices) (r : Tetrahedron) (n : ℕ) → Clear v r n ⊎ Unclear v r
clear_or_not v r zero = inl (λ u l h. absurd (omega arith))
clear_or_not v r (suc n) = ⊎_elim (λ f. at (has_or_not v n) f) (λ z. inr z) (clear_or_not v r n)
  where
    at : Decision (Has v n) → Clear v r n → Clear v r (suc n) ⊎ Unclear v r
    at (inl h) f = by_lt_z (power_at v r n) (pos 0) (λ l. inr (n, h, l)) (λ l. inl (clear_more v r n (λ k. l) f))
    at (inr m) f = inl (clear_more v r n (λ k. absurd (m k)) f)

cell_or_not : (v : Vertices) (r : Tetrahedron) → Decision (IsCellOf v r)
cell_or_not v r = pick (has_or_not v r.a) (has_or_not v r.b) (has_or_not v r.c) (has_or_not v r.d) (clear_or_not v r v.count)
  where
    pick :
        Decision (Has v r.a) → Decision (Has v r.b) → Decision (Has v r.c) → Decision (Has v r.d) →
        Clear v r v.count ⊎ Unclear v r → Decision (IsCellOf v r)
    pick (inr n) b c d k = inr (λ (h : IsCellOf v r). n h.has_a)
    pick a (inr n) c d k = inr (λ (h : IsCellOf v r). n h.has_b)
    pick a b (inr n) d k = inr (λ (h : IsCellOf v r). n h.has_c)
    pick a b c (inr n) k = inr (λ (h : IsCellOf v r). n h.has_d)
    pick (inl a) (inl b) (inl c) (inl d) (inr z) =
        inr (λ (h : IsCellOf v r). let x = h.clear z.0 z.1 in let y = z.2 in absurd (omega (arith, ints, x, y)))
    pick (inl a) (inl b) (inl c) (inl d) (inl f) =
        by_lt_z (pos 0) (orientation_at v r)
        (λ l. inl (record { has_a = a; has_b = b; has_c = c; has_d = d; positive = l; clear = λ u h. f u h.0 h }))
        (λ l. inr (λ (h : IsCellOf v r). let x = h.positive in absurd (omega (arith, ints, x, l))))

-- the cells of a vertices, with what makes them cells
abbrev pub Certified : Vertices → Type 0
Certified v = (r : Tetrahedron) × IsCellOf v r

picked : (v : Vertices) (r : Tetrahedron) → Decision (IsCellOf v r) → List (Certified v)
picked v r (inl h) = (r, h) ∷ []
picked v r (inr n) = []

abbrev Listed : (v : Vertices) → List (Certified v) → Tetrahedron → Type 0
Listed v xs r = (x : Certified v) × IsIn xs x × (x.0 ≡ r)

picked_has : (v : Vertices) (r : Tetrahedron) (d : Decision (IsCellOf v r)) → IsCellOf v r → Listed v (picked v r d) r
unfolding picked
picked_has v r (inl h) k = ((r, h), inl refl, refl)
picked_has v r (inr n) k = absurd (n k)

each_listed :
    (v : Vertices) (f : ℕ → List (Certified v)) (xs : List ℕ) (i : ℕ) (r : Tetrahedron) → IsIn xs i → Listed v (f i) r →
    Listed v (each f xs) r
each_listed v f xs i r h k = (k.0, each_has f xs i k.0 h k.1, k.2)

pub certified : (v : Vertices) → List (Certified v)
certified v =
    let n = below v.count in
    each (λ a. each (λ b. each (λ c. each (λ d. picked v (tetrahedron a b c d) (cell_or_not v (tetrahedron a b c d))) n) n) n) n

pub certified_full : (v : Vertices) → IsFull v (certified v) (λ x. x.0)
unfolding certified
certified_full v =
    record {
      cells = λ x h. x.1;
      all = λ a b c d k.
          let n = below v.count in
          let z =
          each_listed v
          (λ a. each (λ b. each (λ c. each (λ d. picked v (tetrahedron a b c d) (cell_or_not v (tetrahedron a b c d))) n) n) n)
          n a (tetrahedron a b c d) (below_has v.count a k.has_a.0)
          (each_listed v (λ b. each (λ c. each (λ d. picked v (tetrahedron a b c d) (cell_or_not v (tetrahedron a b c d))) n) n)
          n b (tetrahedron a b c d) (below_has v.count b k.has_b.0)
          (each_listed v (λ c. each (λ d. picked v (tetrahedron a b c d) (cell_or_not v (tetrahedron a b c d))) n) n c
          (tetrahedron a b c d) (below_has v.count c k.has_c.0)
          (each_listed v (λ d. picked v (tetrahedron a b c d) (cell_or_not v (tetrahedron a b c d))) n d (tetrahedron a b c d)
          (below_has v.count d k.has_d.0)
          (picked_has v (tetrahedron a b c d) (cell_or_not v (tetrahedron a b c d)) k)))) in
          (z.0, z.1, ([], z.2));
    }

-- where there is a cell, each vertex that is in is one of a cell's
pub each_vertex :
    (v : Vertices) → IsGeneric v → IsConvex v → (a b c d : ℕ) → IsCell v a b c d → (u : ℕ) → Has v u →
    (r : Tetrahedron) × IsCellOf v r × IsVertexOf r u
each_vertex v g c i j k l h u w =
    let f = certified_full v in
    let x = f.all i j k l h in
    let y = no_vertex_lost v g c (certified v) (λ x. x.0) f x.0 x.1 u w in
    (y.0.0, y.0.1, y.2)

-- and each place of the hull lies in a cell
pub each_place :
    (v : Vertices) → IsGeneric v → (a b c d : ℕ) → IsCell v a b c d → (q : RationalPoint) →
    ((a b c d : ℕ) → IsCell v a b c d → IsOuter v a b c → pos 0 ≤ℤ beside v a b c q) →
    (r : Tetrahedron) × IsCellOf v r × IsLyingIn v r q
each_place v g i j k l h q inside =
    let f = certified_full v in
    let x = f.all i j k l h in
    let y = cover v g q inside (certified v) (λ x. x.0) (full_joined v (certified v) (λ x. x.0) f) x.0 x.1 in
    (y.0.0, y.0.1, y.2)
