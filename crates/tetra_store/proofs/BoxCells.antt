-- The six cells of the box are the Delaunay cells of its corners, however many vertices there are that are not in.
--
-- It is computed that no corner is in conflict with any of the six, and that each four of corners in positive order, of 4,096
-- ordered fours, are one of the six up to an even permutation or have a corner in conflict.
use Rattle.std.proofs.Common.{ℕ, zero, suc, ◌≡◌, ◌<◌, Bool, true, false, not, ◌&&◌, ◌||◌, ◌==◌, int_lt, ℤ, pos, ◌<ℤ◌, List, []}
use Rattle.std.proofs.Common.{◌∷◌, refl, sym, inl, inr, subst, arith, slice_index, slice_index_or}
use Rattle.std.proofs.lemmas.Bool.{false≢true, or_cases, eqb-true}
use Rattle.std.proofs.lemmas.Int.{ints}
use Rattle.geo_sign.specs.declared.point.TheConstants.{CORNERS}
use Rattle.geo_sign.specs.Boxes.{IsBoxed}
use Rattle.geo_sign.specs.Orientation.{orientation}
use Rattle.geo_sign.specs.Power.{power}
use Rattle.geo_sign.specs.Tetrahedron.{Tetrahedron, tetrahedron}
use Rattle.geo_sign.specs.Vertices.{Vertices, Has}
use Rattle.geo_sign.specs.Writings.{IsRewritten, IsVertexOf, after_steps}
use Rattle.geo_sign.proofs.Booleans.{every, every_at}
use Rattle.geo_sign.proofs.CornerCells.{corner_orientation, corner_orient, corner_cell, is_met, is_clear, met_at}
use Rattle.geo_sign.proofs.Rewritings.{IsCellOf, rewritten_back, same_vertex}
use Rattle.geo_sign.proofs.SignTests.{above_is}
use Rattle.tetra_store.specs.Links.{Links}
use Rattle.tetra_store.specs.Box.{box_tetrahedron, AreBoxCells, CornerLaw}
use Rattle.tetra_store.specs.Delaunay.{IsDelaunay}
use Rattle.tetra_store.proofs.BoxFacts.{box_below, positive_test, positive_all}
use Rattle.tetra_store.proofs.Reflect.{implied}

-- some below n passes
some_of : ℕ → (ℕ → Bool) → Bool
some_of zero f = false
some_of (suc n) f = some_of n f || f n

some_at : (n : ℕ) (f : ℕ → Bool) → some_of n f ≡ true → (k : ℕ) × (k < n) × (f k ≡ true)
unfolding some_of
some_at zero f h = absurd (false≢true h)
some_at (suc n) f h = elim (or_cases (some_of n f) (f n) h) [
  | inl x ↦ let r = some_at n f x in (r.0, (let l = r.1 in omega arith), r.2)
  | inr x ↦ (n, omega arith, x)
]

-- ---- the even permutations of a tetrahedron
ways : List (List Bool)
ways =
    [] ∷ (true ∷ []) ∷ (true ∷ true ∷ []) ∷ (false ∷ []) ∷ (true ∷ false ∷ []) ∷ (true ∷ true ∷ false ∷ []) ∷ (false ∷ true ∷ [])
    ∷ (true ∷ false ∷ true ∷ []) ∷ (true ∷ true ∷ false ∷ true ∷ []) ∷ (false ∷ true ∷ true ∷ [])
    ∷ (true ∷ false ∷ true ∷ true ∷ []) ∷ (true ∷ true ∷ false ∷ true ∷ true ∷ []) ∷ []

is_same : Tetrahedron → Tetrahedron → Bool
is_same t r = (t.a == r.a) && ((t.b == r.b) && ((t.c == r.c) && (t.d == r.d)))

same_is : (t r : Tetrahedron) → is_same t r ≡ true → t ≡ r
unfolding is_same
same_is t r h = grind (arith, eqb-true)

rewritten_test : Tetrahedron → Tetrahedron → Bool
rewritten_test t r = some_of 12 (λ k. is_same (after_steps (slice_index_or ways k []) t) r)

rewritten_is : (t r : Tetrahedron) → rewritten_test t r ≡ true → IsRewritten t r
unfolding rewritten_test
rewritten_is t r h = grind (arith, some_at, same_is)

-- ---- what is computed
clear_all : every 6 (λ i. every 8 (is_clear (box_tetrahedron i))) ≡ true
unfolding is_clear orientation power
clear_all = refl

four_test : (a b c d : ℕ) → Bool
four_test a b c d =
    let t = tetrahedron a b c d in
    not (int_lt (pos 0) (corner_orientation t)) || (some_of 6 (λ i. rewritten_test (box_tetrahedron i) t) || some_of 8 (is_met t))

four_all : every 8 (λ a. every 8 (λ b. every 8 (λ c. every 8 (four_test a b c)))) ≡ true
unfolding some_of four_test rewritten_test ways is_same is_met orientation power
four_all = refl

-- ---- and what it says
module _ (v : Vertices) (boxed : IsBoxed v) (only : (u : ℕ) → Has v u → u < CORNERS) where
  six_cells : (i : ℕ) → i < 6 → IsCellOf v (box_tetrahedron i)
  six_cells i l =
      corner_cell v boxed (box_tetrahedron i) (box_below i 0 l (omega arith)) (box_below i 1 l (omega arith))
      (box_below i 2 l (omega arith)) (box_below i 3 l (omega arith)) only (every_at 6 positive_test positive_all i l)
      (every_at 6 (λ j. every 8 (is_clear (box_tetrahedron j))) clear_all i l)

  no_others : (t : Tetrahedron) → IsCellOf v t → (i : ℕ) × (i < 6) × IsRewritten (box_tetrahedron i) t
  unfolding four_test
  no_others t cell =
      let a = only t.a cell.has_a in
      let b = only t.b cell.has_b in
      let c = only t.c cell.has_c in
      let d = only t.d cell.has_d in
      let o : pos 0 <ℤ corner_orientation t = subst (λ (z : ℤ). pos 0 <ℤ z) (corner_orient v boxed t a b c d) cell.positive in
      let h =
      every_at 8 (four_test t.a t.b t.c)
      (every_at 8 (λ z. every 8 (four_test t.a t.b z))
      (every_at 8 (λ y. every 8 (λ z. every 8 (four_test t.a y z)))
      (every_at 8 (λ x. every 8 (λ y. every 8 (λ z. every 8 (four_test x y z)))) four_all t.a a) t.b b) t.c c) t.d d in
      elim (or_cases (some_of 6 (λ i. rewritten_test (box_tetrahedron i) t)) (some_of 8 (is_met t))
      (implied (int_lt (pos 0) (corner_orientation t)) _ h (above_is (corner_orientation t) o))) [
        | inl s ↦
            let i = some_at 6 (λ i. rewritten_test (box_tetrahedron i) t) s in
            (i.0, i.1, rewritten_is (box_tetrahedron i.0) t i.2)
        | inr m ↦
            let u = some_at 8 (is_met t) m in
            let low = met_at v boxed t a b c d u.0 u.1 u.2 in
            let high = cell.clear u.0 (boxed.corner_in u.0 u.1) in
            absurd (omega (arith, ints))
      ]

  pub box_delaunay : (links : Links) (ids : List ℕ) → AreBoxCells links ids → IsDelaunay v links
  box_delaunay links ids box = record {
    cells = λ x live.
        let i = box.only x live in
        subst (λ (z : ℕ). IsCellOf v (links.at z)) i.2 (subst (IsCellOf v) (sym (box.at i.0 i.1)) (six_cells i.0 i.1));
    all = λ a b c d cell.
        let t = tetrahedron a b c d in
        let r = no_others t cell in
        let has : (u : ℕ) → IsVertexOf t u → IsVertexOf (links.at (slice_index ids r.0)) u =
        λ u h. subst (λ (z : Tetrahedron). IsVertexOf z u) (sym (box.at r.0 r.1))
        (same_vertex u t (box_tetrahedron r.0) (rewritten_back (box_tetrahedron r.0) t r.2) h) in
        record {
          cell = slice_index ids r.0;
          live = box.live r.0 r.1;
          has_a = has a (inl refl);
          has_b = has b (inr (inl refl));
          has_c = has c (inr (inr (inl refl)));
          has_d = has d (inr (inr (inr refl)));
        };
  }

pub corner_law : CornerLaw
corner_law v boxed only =
    record { cells = six_cells v boxed only; all = λ a b c d. no_others v boxed only (tetrahedron a b c d) }
