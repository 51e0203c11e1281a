-- A place lies strictly in one cell at most, and the cells in conflict are joined. The lifted cells are an upper envelope: over
-- a place the cell that has it is the highest, so two cells that have it strictly are of one height there, and one by the ways
-- to write them.
--
-- For the second take some marked cells in conflict that no step across a facet to a cell in conflict leaves, and a place near
-- the new vertex in the plane of no facet. Suppose that a cell in conflict is not marked. The highest over the place of the
-- marked ones has the place: else a facet has it behind, and across it there is a higher cell, in conflict too and so marked.
-- The highest of those that are not marked has it for the same reason. But the place lies strictly in one cell at most.
-- Stands on: Best, Wrap, Fan, Conflicts, Ways and the envelope of Identities.
use Rattle.std.proofs.Common.{ℕ, ◌≡◌, refl, ap, ap₂, sym, subst, ◌∙◌, ⊎_elim, arith, Bool, true, false, not, ◌&&◌, true≢false}
use Rattle.std.proofs.Common.{int_lt, ℤ, pos, neg_ℤ, ◌+ℤ◌, ◌*ℤ◌, ◌≤ℤ◌, ◌<ℤ◌, List, [], ◌∷◌}
use Rattle.std.proofs.lemmas.Int.{ints, by_lt_z}
use Rattle.std.proofs.lemmas.Bool.{not-true, and_parts}
use lib.IntN.{*ℤ_comm}
use Rattle.geo_sign.specs.Rational.{RationalPoint}
use Rattle.geo_sign.specs.Cells.{IsCell}
use Rattle.geo_sign.specs.Tetrahedron.{Tetrahedron, tetrahedron}
use Rattle.geo_sign.specs.Vertices.{Has, orientation_of, power_of, Vertices}
use Rattle.geo_sign.specs.Places.{IsLyingIn, IsStrictlyIn}
use Rattle.geo_sign.specs.Boxes.{IsInConflict}
use Rattle.cell_laws.specs.Lifts.{lift_of}
use Rattle.cell_laws.specs.Lists.{IsClosedInConflict, IsIn, IsListing}
use Rattle.geo_sign.specs.Writings.{IsVertexOf, IsRewritten}
use Rattle.geo_sign.proofs.Rewritings.{IsCellOf, orientation_at, power_at, same_cell, same_orientation, same_power}
use Rattle.geo_sign.proofs.SignTests.{below_true, below_is}
use Rattle.geo_sign.proofs.RingLaws.{neg-*ℤ}
use Rattle.cell_laws.proofs.Best.{best, IsBest}
use Rattle.cell_laws.proofs.Conflicts.{conflict_across}
use Rattle.cell_laws.proofs.Fan.{across_above}
use Rattle.cell_laws.proofs.Identities.{envelope}
use Rattle.cell_laws.proofs.Order.{IsLater, mul_not_negative, mul_positive, walk_step}
use Rattle.cell_laws.proofs.Regions.{IsGeneric, IsGoal, IsOuter}
use Rattle.cell_laws.proofs.Ways.{beside, same_tetrahedron, same_lift, strictly}
use Rattle.cell_laws.proofs.Wrap.{across}

-- ---- a place lies strictly in one cell at most
no_factor : (a b : ℤ) → pos 0 ≤ℤ a → pos 0 <ℤ b → (a *ℤ b) ≤ℤ pos 0 → a ≡ pos 0
no_factor a b h k m =
    by_lt_z (pos 0) a (λ l. let n = mul_positive a b l k in absurd (omega (arith, ints, n, m))) (λ l. omega (arith, ints, h, l))

pub envelope_of : (v : Vertices) (t w : Tetrahedron) (q : RationalPoint) →
    orientation_at v t *ℤ lift_of v w q ≡
    orientation_at v w *ℤ lift_of v t q +ℤ
    (power_at v t w.a *ℤ beside v w.b w.d w.c q +ℤ power_at v t w.b *ℤ beside v w.a w.c w.d q
    +ℤ power_at v t w.c *ℤ beside v w.a w.d w.b q +ℤ power_at v t w.d *ℤ beside v w.a w.b w.c q)
envelope_of v t w q = grind (arith, ints, envelope)

pub weak : (v : Vertices) (r : Tetrahedron) (q : RationalPoint) → IsStrictlyIn v r q → IsLyingIn v r q
weak v r q h =
    record { at = λ k. (let m = h.at k in omega (arith, ints, m)) }

-- the cell that has q is the higher one there
pub above :
    (v : Vertices) (t w : Tetrahedron) (q : RationalPoint) → IsCellOf v t → IsCellOf v w → IsLyingIn v w q →
    (orientation_at v w *ℤ lift_of v t q) ≤ℤ (orientation_at v t *ℤ lift_of v w q)
above v t w q hv hw h =
    let e = envelope_of v t w q in
    let i = mul_not_negative (power_at v t w.a) (beside v w.b w.d w.c q) (hv.clear w.a hw.has_a) (h.at 0) in
    let j = mul_not_negative (power_at v t w.b) (beside v w.a w.c w.d q) (hv.clear w.b hw.has_b) (h.at 1) in
    let k = mul_not_negative (power_at v t w.c) (beside v w.a w.d w.b q) (hv.clear w.c hw.has_c) (h.at 2) in
    let l = mul_not_negative (power_at v t w.d) (beside v w.a w.b w.c q) (hv.clear w.d hw.has_d) (h.at 3) in
    omega (arith, ints, e, i, j, k, l)

-- strictly in w, and lying in v
pub holds_one :
    (v : Vertices) → IsGeneric v → (t w : Tetrahedron) (q : RationalPoint) → IsCellOf v t → IsCellOf v w → IsLyingIn v t q →
    IsStrictlyIn v w q → IsRewritten t w
holds_one v g t w q hv hw h k =
    let e = envelope_of v t w q in
    let back = above v w t q hw hv h in
    let n = weak v w q k in
    let ma = mul_not_negative (power_at v t w.a) (beside v w.b w.d w.c q) (hv.clear w.a hw.has_a) (n.at 0) in
    let mb = mul_not_negative (power_at v t w.b) (beside v w.a w.c w.d q) (hv.clear w.b hw.has_b) (n.at 1) in
    let mc = mul_not_negative (power_at v t w.c) (beside v w.a w.d w.b q) (hv.clear w.c hw.has_c) (n.at 2) in
    let md = mul_not_negative (power_at v t w.d) (beside v w.a w.b w.c q) (hv.clear w.d hw.has_d) (n.at 3) in
    same_tetrahedron v t w hv.positive hw.positive
    (of w.a hw.has_a
    (no_factor (power_at v t w.a) (beside v w.b w.d w.c q) (hv.clear w.a hw.has_a) (k.at 0)
    (omega (arith, ints, e, back, ma, mb, mc, md))))
    (of w.b hw.has_b
    (no_factor (power_at v t w.b) (beside v w.a w.c w.d q) (hv.clear w.b hw.has_b) (k.at 1)
    (omega (arith, ints, e, back, ma, mb, mc, md))))
    (of w.c hw.has_c
    (no_factor (power_at v t w.c) (beside v w.a w.d w.b q) (hv.clear w.c hw.has_c) (k.at 2)
    (omega (arith, ints, e, back, ma, mb, mc, md))))
    (of w.d hw.has_d
    (no_factor (power_at v t w.d) (beside v w.a w.b w.c q) (hv.clear w.d hw.has_d) (k.at 3)
    (omega (arith, ints, e, back, ma, mb, mc, md))))
  where
    of : (u : ℕ) → Has v u → power_at v t u ≡ pos 0 → IsVertexOf t u
    of u i z = g t.a t.b t.c t.d u hv.has_a.0 hv.has_b.0 hv.has_c.0 hv.has_d.0 i.0 hv.positive z

-- ---- the top of the marked cells
abbrev test : {X : Type 0} → Vertices → ℕ → (X → Tetrahedron) → (X → Bool) → X → Bool
test v p cell marked x = marked x && int_lt (power_at v (cell x) p) (pos 0)

pub record IsTop {X : Type 0} (v : Vertices) (p : ℕ) (q : RationalPoint) (live : List X) (cell : X → Tetrahedron)
    (marked : X → Bool) (x : X) : Type 0 where
  pub listed : IsIn live x
  pub marks : marked x ≡ true
  pub in_conflict : IsInConflict v p (cell x)
  pub holds : IsStrictlyIn v (cell x) q

pub move : (o e o' e' O E O' E' : ℤ) → O ≡ o → E ≡ e → O' ≡ o' → E' ≡ e' → IsLater O E O' E' → IsLater o e o' e'
move o e o' e' O E O' E' p q p' q' h = grind (arith, ints)

top :
    {X : Type 0} (v : Vertices) → IsGeneric v → (p : ℕ) (q : RationalPoint) → IsGoal v p q
    → (live : List X) (cell : X → Tetrahedron) → IsListing v live cell → (marked : X → Bool) → IsClosedInConflict v p live cell marked
    → (x : X) → IsBest (test v p cell marked) (λ y. neg_ℤ (lift_of v (cell y) q)) (λ y. orientation_at v (cell y)) live x
    → IsTop v p q live cell marked x
top {X} v g p q goal live cell list marked closed x k =
    record {
      listed = k.listed;
      marks = mx;
      in_conflict = cx;
      holds = strictly v (cell x) q
          (level (cell x).b (cell x).d (cell x).c (cell x).a (true ∷ false ∷ true ∷ [], refl))
          (level (cell x).a (cell x).c (cell x).d (cell x).b (true ∷ false ∷ true ∷ false ∷ [], refl))
          (level (cell x).a (cell x).d (cell x).b (cell x).c (true ∷ false ∷ [], refl))
          (level (cell x).a (cell x).b (cell x).c (cell x).d ([], refl));
    }
  where
    mx : marked x ≡ true
    mx = (and_parts (marked x) _ k.passes).0

    cx : IsInConflict v p (cell x)
    cx = below_true (power_at v (cell x) p) (and_parts (marked x) _ k.passes).1

    step :
        (a b c d e : ℕ) → IsRewritten (cell x) (tetrahedron a b c d) → IsCell v a b c d → IsCell v a c b e →
        beside v a b c q <ℤ pos 0 → ⊥
    step a b c d e w f z l =
        let pz = across_above v g a b c d e f z in
        let ca : power_of v a b c d p <ℤ pos 0 =
        subst (λ t. t <ℤ pos 0) (sym (same_power v p (cell x) (tetrahedron a b c d) w)) cx in
        let cz =
        conflict_across (v.at a) (v.at b) (v.at c) (v.at d) (v.at e) (v.at p) (v.high a) (v.high b) (v.high c) (v.high d)
        (v.high e) (v.high p) f.positive z.positive pz ca (goal.near a b c d f l) in
        let y = list.full.all a c b e z in
        let cy : IsInConflict v p (cell y.0) =
        subst (λ t. t <ℤ pos 0) (same_power v p (cell y.0) (tetrahedron a c b e) y.2) cz in
        let my : marked y.0 ≡ true = closed x y.0 a b c d e k.listed y.1 mx cx cy w y.2 in
        let m : (neg_ℤ (lift_of v (cell x) q) *ℤ orientation_at v (cell y.0))
        ≤ℤ (neg_ℤ (lift_of v (cell y.0) q) *ℤ orientation_at v (cell x)) =
        k.least y.0 y.1 (ap₂ (λ i j. i && j) my (below_is (power_at v (cell y.0) p) cy)) in
        let n : IsLater (orientation_at v (cell x)) (lift_of v (cell x) q) (orientation_at v (cell y.0))
        (lift_of v (cell y.0) q) =
        move (orientation_at v (cell x)) (lift_of v (cell x) q) (orientation_at v (cell y.0)) (lift_of v (cell y.0) q)
        (orientation_of v a b c d) (lift_of v (tetrahedron a b c d) q) (orientation_of v a c b e)
        (lift_of v (tetrahedron a c b e) q)
        (same_orientation v (cell x) (tetrahedron a b c d) w) (same_lift v q (cell x) (tetrahedron a b c d) w)
        (same_orientation v (cell y.0) (tetrahedron a c b e) y.2) (same_lift v q (cell y.0) (tetrahedron a c b e) y.2)
        (walk_step (v.at a) (v.at b) (v.at c) (v.at d) (v.at e) q (v.high a) (v.high b) (v.high c) (v.high d)
        (v.high e) pz l) in
        let i = neg-*ℤ (lift_of v (cell x) q) (orientation_at v (cell y.0)) in
        let j = neg-*ℤ (lift_of v (cell y.0) q) (orientation_at v (cell x)) in
        let i' = *ℤ_comm (lift_of v (cell x) q) (orientation_at v (cell y.0)) in
        let j' = *ℤ_comm (lift_of v (cell y.0) q) (orientation_at v (cell x)) in
        omega (arith, ints, m, n, i, j, i', j')

    level : (a b c d : ℕ) → IsRewritten (cell x) (tetrahedron a b c d) → pos 0 <ℤ beside v a b c q
    level a b c d w =
        let f : IsCell v a b c d = same_cell v (cell x) (tetrahedron a b c d) w (list.full.cells x k.listed) in
        let sure = goal.sure a b c d f in
        by_lt_z (pos 0) (beside v a b c q) (λ l. l)
        (λ l. by_lt_z (beside v a b c q) (pos 0)
        (λ m. absurd
        (⊎_elim (λ (o : IsOuter v a b c). let n = goal.inside a b c d f o in absurd (omega (arith, ints, n, m)))
        (λ (z : (e : ℕ) × IsCell v a c b e). step a b c d z.0 w f z.1 m) (across v a b c d f)))
        (λ m. absurd (sure (omega (arith, ints, l, m)))))

pub found_top :
    {X : Type 0} (v : Vertices) → IsGeneric v → (p : ℕ) (q : RationalPoint) → IsGoal v p q →
    (live : List X) (cell : X → Tetrahedron) → IsListing v live cell → (marked : X → Bool) → IsClosedInConflict v p live cell marked →
    (x : X) → IsIn live x → marked x ≡ true → IsInConflict v p (cell x) → (y : X) × IsTop v p q live cell marked y
found_top {X} v g p q goal live cell list marked closed x i m c =
    ⊎_elim (λ n. absurd (true≢false (sym (ap₂ (λ i j. i && j) m (below_is (power_at v (cell x) p) c)) ∙ n x i)))
    (λ (z : (y : X) × IsBest (test v p cell marked) (λ y. neg_ℤ (lift_of v (cell y) q)) (λ y. orientation_at v (cell y)) live
    y). (z.0, top v g p q goal live cell list marked closed z.0 z.1))
    (best (test v p cell marked) (λ y. neg_ℤ (lift_of v (cell y) q)) (λ y. orientation_at v (cell y)) live
    (λ y j k. (list.full.cells y j).positive))

-- what is not marked is closed too
others_closed :
    {X : Type 0} (v : Vertices) (p : ℕ) (live : List X) (cell : X → Tetrahedron) (marked : X → Bool) →
    IsClosedInConflict v p live cell marked → IsClosedInConflict v p live cell (λ t. not (marked t))
others_closed {X} v p live cell marked closed x y a b c d e i j m cx cy w w' = pick (marked y) refl
  where
    pick : (b : Bool) → marked y ≡ b → not (marked y) ≡ true
    pick true h = absurd (true≢false (sym (closed y x a c b e d j i h cy cx w' w) ∙ not-true (marked x) m))
    pick false h = ap not h

-- marked cells in conflict that no step leaves are all cells in conflict
pub flood :
    {X : Type 0} (v : Vertices) → IsGeneric v → (p : ℕ) (q : RationalPoint) → IsGoal v p q
    → (live : List X) (cell : X → Tetrahedron) → IsListing v live cell → (marked : X → Bool) → IsClosedInConflict v p live cell marked
    → (x : X) → IsIn live x → marked x ≡ true → IsInConflict v p (cell x) → (y : X) → IsIn live y → IsInConflict v p (cell y)
    → marked y ≡ true
flood {X} v g p q goal live cell list marked closed x i m c y j d = pick (marked y) refl
  where
    pick : (b : Bool) → marked y ≡ b → marked y ≡ true
    pick true h = h
    pick false h =
        let t = found_top v g p q goal live cell list marked closed x i m c in
        let u =
        found_top v g p q goal live cell list (λ t. not (marked t)) (others_closed v p live cell marked closed) y j
        (ap not h) d in
        let kt : IsTop v p q live cell marked t.0 = t.1 in
        let ku : IsTop v p q live cell (λ t. not (marked t)) u.0 = u.1 in
        let same : IsRewritten (cell t.0) (cell u.0) =
        holds_one v g (cell t.0) (cell u.0) q (list.full.cells t.0 kt.listed) (list.full.cells u.0 ku.listed)
        (weak v (cell t.0) q kt.holds) ku.holds in
        let e : t.0 ≡ u.0 = list.once t.0 u.0 kt.listed ku.listed same in
        absurd (true≢false (sym kt.marks ∙ ap marked e ∙ not-true (marked u.0) ku.marks))
