-- The six cells of the box are linked cells over its corners.
--
-- What must hold of the six is a test of small numbers for each cell, side and pair of sides, so it is computed for all at
-- once and read off for one (box_below to box_keeps, by every_at); box_backs has the side that names back, and box_walled
-- that none is across exactly on a wall. The rest carries that over: each live cell is one of the six with its corners
-- (each), and the corners stand at their places.
use Rattle.std.proofs.Common.{ℕ, zero, suc, ◌≡◌, ◌<◌, Bool, true, false, not, ◌&&◌, ◌||◌, ◌==◌, nat_lt, ℤ, pos, ◌<ℤ◌, int_lt}
use Rattle.std.proofs.Common.{if◌then◌else◌, List, [], ◌∷◌, Option, Some, None, refl, sym, ap, ◌∙◌, ◌⊎◌, inl, inr, subst, arith}
use Rattle.std.proofs.Common.{slice_index, slice_index_or}
use Rattle.std.proofs.lemmas.Bool.{false≢true, or_cases, and_parts, eq-eqb, ltb-true, eqb-true}
use Rattle.geo_sign.specs.declared.point.TheConstants.{CORNERS}
use Rattle.geo_sign.specs.Orientation.{orientation}
use Rattle.geo_sign.specs.Tetrahedron.{Tetrahedron, vertex_of, facet_of, IsRotated, IsTurned}
use Rattle.geo_sign.specs.Vertices.{Vertices, Has, IsWall, orientation_of}
use Rattle.geo_sign.specs.Writings.{IsVertexOf}
use Rattle.tetra_store.specs.Links.{Links, IsLive, IsBack, IsLinked}
use Rattle.tetra_store.specs.Box.{box_tetrahedron, box_number, box_keeper, across_in, AreBoxCells}
use Rattle.geo_sign.specs.Edges.{HasVertex}
use Rattle.geo_sign.proofs.SignTests.{above_true}
use Rattle.geo_sign.proofs.Facets.{in_of}
use Rattle.tetra_store.proofs.Facets.{place_of, at_place}
use Rattle.geo_sign.proofs.Booleans.{every, every_at}
use Rattle.geo_sign.proofs.CornerCells.{corner_orientation, corner_orient}
use Rattle.geo_sign.specs.Boxes.{IsBoxed}
use Rattle.tetra_store.proofs.Reflect.{implied, same, same_is, rotated_test, rotated_yes, turned_test, turned_of, wall_test}
use Rattle.tetra_store.proofs.Reflect.{wall_of, wall_yes}

-- the side across which the cell across names the cell back
abbrev box_backs : List (List ℕ)
box_backs =
    (3 ∷ 0 ∷ 0 ∷ 0 ∷ []) ∷ (2 ∷ 3 ∷ 0 ∷ 0 ∷ []) ∷ (3 ∷ 0 ∷ 0 ∷ 1 ∷ []) ∷ (2 ∷ 0 ∷ 0 ∷ 0 ∷ []) ∷ (0 ∷ 2 ∷ 0 ∷ 0 ∷ [])
    ∷ (0 ∷ 0 ∷ 1 ∷ 0 ∷ []) ∷ []

abbrev box_back : (i k : ℕ) → ℕ
box_back i k = slice_index (slice_index_or box_backs i []) k

abbrev keeper_sides : List ℕ
keeper_sides = 0 ∷ 1 ∷ 2 ∷ 3 ∷ 3 ∷ 3 ∷ 2 ∷ 2 ∷ []

abbrev keeper_side : ℕ → ℕ
keeper_side u = slice_index keeper_sides u

-- ---- what is computed

abbrev below_test : ℕ → ℕ → Bool
below_test i k = nat_lt (vertex_of (box_tetrahedron i) k) 8

pub box_below : (i k : ℕ) → i < 6 → k < 4 → vertex_of (box_tetrahedron i) k < CORNERS
box_below i k l m = grind (arith, ltb-true, every_at)

abbrev apart_test : ℕ → ℕ → ℕ → Bool
apart_test i j k = not (vertex_of (box_tetrahedron i) j == vertex_of (box_tetrahedron i) k) || (j == k)

box_distinct : (i j k : ℕ) → i < 6 → j < 4 → k < 4 → vertex_of (box_tetrahedron i) j ≡ vertex_of (box_tetrahedron i) k → j ≡ k
box_distinct i j k l m n e =
    let t =
    every_at 4 (apart_test i j)
    (every_at 4 (λ a. every 4 (apart_test i a)) (every_at 6 (λ b. every 4 (λ a. every 4 (apart_test b a))) refl i l) j m) k n in
    eqb-true j k (implied (vertex_of (box_tetrahedron i) j == vertex_of (box_tetrahedron i) k) (j == k) t
    (eq-eqb (vertex_of (box_tetrahedron i) j) (vertex_of (box_tetrahedron i) k) e))

abbrev pub positive_test : ℕ → Bool
positive_test i = int_lt (pos 0) (corner_orientation (box_tetrahedron i))

pub positive_all : every 6 positive_test ≡ true
unfolding orientation
positive_all = refl

abbrev back_test : ℕ → ℕ → Bool
back_test i k =
    (box_number i k == 6)
    || (nat_lt (box_number i k) 6
    && (nat_lt (box_back i k) 4
    && (turned_test (facet_of (box_tetrahedron i) k) (facet_of (box_tetrahedron (box_number i k)) (box_back i k))
    && (box_number (box_number i k) (box_back i k) == i))))

record IsBoxBack (i k : ℕ) : Type 0 where
  cell_in : box_number i k < 6
  side_in : box_back i k < 4
  turned : IsTurned (facet_of (box_tetrahedron i) k) (facet_of (box_tetrahedron (box_number i k)) (box_back i k))
  named : box_number (box_number i k) (box_back i k) ≡ i

box_backed : (i k : ℕ) → i < 6 → k < 4 → (box_number i k ≡ 6) ⊎ IsBoxBack i k
box_backed i k l m =
    let t = every_at 4 (back_test i) (every_at 6 (λ j. every 4 (back_test j)) refl i l) k m in
    let n = box_number i k in
    let b = box_back i k in
    let tt' = turned_test (facet_of (box_tetrahedron i) k) (facet_of (box_tetrahedron n) b) in
    elim (or_cases (n == 6) (nat_lt n 6 && (nat_lt b 4 && (tt' && (box_number n b == i)))) t) [
      | inl e ↦ inl (eqb-true n 6 e)
      | inr r ↦
          let in_cell = and_parts (nat_lt n 6) (nat_lt b 4 && (tt' && (box_number n b == i))) r in
          let in_side = and_parts (nat_lt b 4) (tt' && (box_number n b == i)) in_cell.1 in
          let last = and_parts tt' (box_number n b == i) in_side.1 in
          inr (record {
            cell_in = ltb-true n 6 in_cell.0;
            side_in = ltb-true b 4 in_side.0;
            turned = turned_of (facet_of (box_tetrahedron i) k) (facet_of (box_tetrahedron n) b) last.0;
            named = eqb-true (box_number n b) i last.1;
          })
    ]

abbrev walled_test : ℕ → ℕ → Bool
walled_test i k = same (box_number i k == 6) (wall_test (facet_of (box_tetrahedron i) k))

box_walled : (i k : ℕ) → i < 6 → k < 4 → (box_number i k == 6) ≡ wall_test (facet_of (box_tetrahedron i) k)
box_walled i k l m = grind (arith, same_is, every_at)

abbrev common_test : ℕ → ℕ → ℕ → ℕ → Bool
common_test i j k m = not (rotated_test (facet_of (box_tetrahedron i) k) (facet_of (box_tetrahedron j) m)) || (i == j)

box_common : (i j k m : ℕ) → i < 6 → j < 6 → k < 4 → m < 4
    → IsRotated (facet_of (box_tetrahedron i) k) (facet_of (box_tetrahedron j) m) → i ≡ j
box_common i j k m li lj lk lm h =
    let t =
    every_at 4 (common_test i j k)
    (every_at 4 (λ c. every 4 (common_test i j c))
    (every_at 6 (λ b. every 4 (λ c. every 4 (common_test i b c)))
    (every_at 6 (λ a. every 6 (λ b. every 4 (λ c. every 4 (common_test a b c)))) refl i li) j lj) k lk) m lm in
    eqb-true i j (implied (rotated_test (facet_of (box_tetrahedron i) k) (facet_of (box_tetrahedron j) m)) (i == j) t
    (rotated_yes (facet_of (box_tetrahedron i) k) (facet_of (box_tetrahedron j) m) h))

abbrev keeper_test : ℕ → Bool
keeper_test u =
    nat_lt (box_keeper u) 6 && (nat_lt (keeper_side u) 4 && (vertex_of (box_tetrahedron (box_keeper u)) (keeper_side u) == u))

pub box_keeps : (u : ℕ) → u < CORNERS → (box_keeper u < 6) × IsVertexOf (box_tetrahedron (box_keeper u)) u
box_keeps u l = grind (arith, every_at, ltb-true, at_place, eqb-true)

-- ---- the cells are linked

across_if : (b : Bool) (x : ℕ) → b ≡ true → (if b then None else Some x) ≡ (let o : Option ℕ = None in o)
across_if b x h = subst (λ (c : Bool). (if c then None else Some x) ≡ (let o : Option ℕ = None in o)) (sym h) refl

across_some : (b : Bool) (x y : ℕ) → (if b then None else Some x) ≡ Some y → (b ≡ false) × (x ≡ y)
across_some true x y h = absurd cc
across_some false x y h = (refl, cc)

across_none : (b : Bool) (x : ℕ) → (if b then None else Some x) ≡ (let o : Option ℕ = None in o) → b ≡ true
across_none true x h = refl
across_none false x h = absurd cc

module _ (v : Vertices) (boxed : IsBoxed v) (links : Links) (ids : List ℕ) (box : AreBoxCells links ids) where
  facet_below : (i k u : ℕ) → i < 6 → HasVertex (facet_of (box_tetrahedron i) k) u → u < 8
  facet_below i k u l h =
      let o = place_of (box_tetrahedron i) u (in_of (box_tetrahedron i) k u h) in
      subst (λ (z : ℕ). z < 8) o.2 (box_below i o.0 l o.1)

  positive_at : (i : ℕ) → i < 6
      → pos 0 <ℤ orientation_of v (box_tetrahedron i).a (box_tetrahedron i).b (box_tetrahedron i).c (box_tetrahedron i).d
  positive_at i l =
      let t = box_tetrahedron i in
      subst (λ (z : ℤ). pos 0 <ℤ z)
      (sym (corner_orient v boxed t (box_below i 0 l (omega arith)) (box_below i 1 l (omega arith))
      (box_below i 2 l (omega arith)) (box_below i 3 l (omega arith))))
      (above_true (corner_orientation t) (every_at 6 positive_test positive_all i l))

  back_at : (i k y : ℕ) → i < 6 → k < 4 → links.next (slice_index ids i) k ≡ Some y → IsBack links (slice_index ids i) k y
  back_at i k y l m e =
      let s = across_some (box_number i k == 6) (slice_index ids (box_number i k)) y (sym (box.next i k l m) ∙ e) in
      elim (box_backed i k l m) [
        | inl six ↦ absurd (false≢true (sym s.0 ∙ subst (λ (z : ℕ). (z == 6) ≡ true) (sym six) refl))
        | inr h ↦
            let n = box_number i k in
            let b = box_back i k in
            subst (λ (z : ℕ). IsBack links (slice_index ids i) k z) s.1 (record {
              live = box.live n h.cell_in;
              side = b;
              in_range = h.side_in;
              turned =
                  subst (λ (t : Tetrahedron). IsTurned (facet_of t k) (facet_of (links.at (slice_index ids n)) b))
                  (sym (box.at i l))
                  (subst (λ (t : Tetrahedron). IsTurned (facet_of (box_tetrahedron i) k) (facet_of t b))
                  (sym (box.at n h.cell_in)) h.turned);
              named = box.next n b h.cell_in h.side_in ∙ named n b i h.named l;
            })
      ]
    where
      named_if : (c : Bool) (x : ℕ) → c ≡ false → (if c then None else Some x) ≡ Some x
      named_if c x h = subst (λ (d : Bool). (if d then None else Some x) ≡ Some x) (sym h) refl

      below_six : (i : ℕ) → i < 6 → (i == 6) ≡ false
      below_six zero l = refl
      below_six (suc zero) l = refl
      below_six (suc (suc zero)) l = refl
      below_six (suc (suc (suc zero))) l = refl
      below_six (suc (suc (suc (suc zero)))) l = refl
      below_six (suc (suc (suc (suc (suc zero))))) l = refl
      below_six (suc (suc (suc (suc (suc (suc i)))))) l = absurd (omega arith)

      named : (n b i : ℕ) → box_number n b ≡ i → i < 6 → across_in ids n b ≡ Some (slice_index ids i)
      named n b i e l =
          named_if (box_number n b == 6) (slice_index ids (box_number n b))
          (subst (λ (z : ℕ). (z == 6) ≡ false) (sym e) (below_six i l)) ∙ ap (λ (z : ℕ). Some (slice_index ids z)) e

  wall_at : (i k : ℕ) → i < 6 → k < 4 → links.next (slice_index ids i) k ≡ None → IsWall v (facet_of (box_tetrahedron i) k)
  wall_at i k l m e =
      let six = across_none (box_number i k == 6) (slice_index ids (box_number i k)) (sym (box.next i k l m) ∙ e) in
      let f = facet_of (box_tetrahedron i) k in
      wall_of v boxed.corner_at f (facet_below i k f.a l (inl refl)) (facet_below i k f.b l (inr (inl refl)))
      (facet_below i k f.c l (inr (inr refl))) (sym (box_walled i k l m) ∙ six)

  inner_at : (i k : ℕ) → i < 6 → k < 4 → IsWall v (facet_of (box_tetrahedron i) k) → links.next (slice_index ids i) k ≡ None
  inner_at i k l m w =
      box.next i k l m ∙ across_if (box_number i k == 6) (slice_index ids (box_number i k))
      (box_walled i k l m ∙ wall_yes v boxed.corner_at (facet_of (box_tetrahedron i) k) w)

  -- what holds of each of the six holds of each
  each : (P : ℕ → Tetrahedron → Type 0) → ((i : ℕ) → i < 6 → P (slice_index ids i) (box_tetrahedron i)) → (x : ℕ)
      → IsLive links x → P x (links.at x)
  each P h x live =
      let i = box.only x live in
      subst (λ (z : ℕ). P z (links.at z)) i.2
      (subst (λ (t : Tetrahedron). P (slice_index ids i.0) t) (sym (box.at i.0 i.1)) (h i.0 i.1))

  common : (x y j k : ℕ) → IsLive links x → IsLive links y → j < 4 → k < 4
      → IsRotated (facet_of (links.at x) j) (facet_of (links.at y) k) → x ≡ y
  common x y j k lx ly lj lk h =
      let i = box.only x lx in
      let m = box.only y ly in
      let at_x : links.at x ≡ box_tetrahedron i.0 = subst (λ (z : ℕ). links.at z ≡ box_tetrahedron i.0) i.2 (box.at i.0 i.1) in
      let at_y : links.at y ≡ box_tetrahedron m.0 = subst (λ (z : ℕ). links.at z ≡ box_tetrahedron m.0) m.2 (box.at m.0 m.1) in
      let h' = subst (λ (t : Tetrahedron). IsRotated (facet_of t j) (facet_of (links.at y) k)) at_x h in
      let h'' = subst (λ (t : Tetrahedron). IsRotated (facet_of (box_tetrahedron i.0) j) (facet_of t k)) at_y h' in
      sym i.2 ∙ (ap (λ (z : ℕ). slice_index ids z) (box_common i.0 m.0 j k i.1 m.1 lj lk h'') ∙ m.2)

  pub box_linked : IsLinked v links
  box_linked = record {
    has =
        λ x k live m.
        each (λ z t. Has v (vertex_of t k)) (λ i l. boxed.corner_in (vertex_of (box_tetrahedron i) k) (box_below i k l m)) x live;
    distinct = λ x j k live m n. each (λ z t. vertex_of t j ≡ vertex_of t k → j ≡ k) (λ i l. box_distinct i j k l m n) x live;
    positive = λ x live. each (λ z t. pos 0 <ℤ orientation_of v t.a t.b t.c t.d) positive_at x live;
    back = λ x k y live m e. let i = box.only x live in
        subst (λ (z : ℕ). IsBack links z k y) i.2
        (back_at i.0 k y i.1 m (subst (λ (z : ℕ). links.next z k ≡ Some y) (sym i.2) e));
    walls = λ x k live m e. each (λ z t. links.next z k ≡ None → IsWall v (facet_of t k)) (λ i l. wall_at i k l m) x live e;
    inner = λ x k live m w. each (λ z t. IsWall v (facet_of t k) → links.next z k ≡ None) (λ i l. inner_at i k l m) x live w;
    apart = common;
  }
