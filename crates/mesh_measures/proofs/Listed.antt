-- The sides of the faces, one face after another.
--
-- Each is a side of its face (listed_each); each pair of corners of one face is one of them (listed_all); and an edge is that of as many
-- as faces have it (listed_counts), since a face has it by one of its three sides.
use Rattle.std.proofs.Common.{ℕ, zero, suc, ◌≡◌, ◌≢◌, ◌+◌, ◌*◌, ◌/◌, ◌<◌, ◌≤◌, ◌^◌, ◌==◌, ◌++◌, ◌⊎◌, inl, inr, refl, ap, sym, ◌∙◌, subst, arith, Bool, true, false, cond, nat_lt}
use Rattle.std.proofs.Common.{List, [], ◌∷◌, length, get_or, take}
use Rattle.std.specs.List.{All, Contains}
use Rattle.std.proofs.lemmas.Bool.{cases_lt}
use Rattle.std.proofs.lemmas.Bool.Decides.{nat_tests}
use Rattle.std.proofs.lemmas.List.Elements.{All-nil, All-cons, All-append, Contains-append_left, Contains-append_right}
use Rattle.std.proofs.lemmas.List.{take_all}
use Rattle.std.proofs.lemmas.List.Sums.{sum_by-append}
use Rattle.std.specs.List.Sorted.{IsNonDecreasingBy, IsPermutation}
use Rattle.std.proofs.lemmas.List.Sorted.{All-permutation, Contains-permutation, sum_by-IsPermutation}
use Rattle.mesh.specs.Meshes.{IsFace}
use Rattle.mesh_edges.specs.Edges.{face_at, is_edge, has_edge}
use Rattle.mesh_edges.specs.Pairs.{key_of}
use Rattle.mesh_edges.proofs.Counts.{one_if, hits, hits-cons}
use Rattle.mesh_edges.proofs.EdgeCounts.{edge_count_more}
use Rattle.mesh_edges.specs.HalfEdges.{start}
use Rattle.mesh_measures.specs.Corners.{AreOfOneFace}
use Rattle.mesh_measures.specs.Manifolds.{faces_at_edge}
use Rattle.mesh_measures.specs.Sides.{AreSides, IsSide, face_side, side_key, side_between, sides_of_face}
use Rattle.mesh_measures.specs.declared.sides.Side.{Side}
use Rattle.mesh_measures.proofs.Starts.{corner_cases, three, three_apart}

-- those of the first f faces
pub all_sides : List (List ℕ) → ℕ → List Side
all_sides faces zero = []
all_sides faces (suc f) = all_sides faces f ++ sides_of_face faces f

pub sides_none : (faces : List (List ℕ)) → all_sides faces 0 ≡ []
unfolding all_sides
sides_none faces = refl

pub sides_next : (faces : List (List ℕ)) (f : ℕ) → all_sides faces (suc f) ≡ all_sides faces f ++ sides_of_face faces f
unfolding all_sides
sides_next faces f = refl

pub sides_more : (faces : List (List ℕ)) (f : ℕ) (old new : List Side) → old ≡ all_sides faces f
    → new ≡ old ++ sides_of_face faces f → new ≡ all_sides faces (f + 1)
sides_more faces f old new e pushed =
    let s : suc f ≡ f + 1 = omega arith in
    pushed
    ∙ (ap (λ (t : List Side). t ++ sides_of_face faces f) e
    ∙ (sym (sides_next faces f) ∙ ap (all_sides faces) s))

lt_yes : (a b : ℕ) → a < b → nat_lt a b ≡ true
lt_yes a b l = grind (arith, nat_tests)

lt_no : (a b : ℕ) → b < a → nat_lt a b ≡ false
lt_no a b l = grind (arith, nat_tests)

-- a key is that of one pair
edge_hit : (a b u v : ℕ) → a < b → u < v → b < 2 ^ 32 → v < 2 ^ 32
    → one_if (key_of a b == key_of u v) ≡ one_if (is_edge u v a b) + one_if (is_edge v u a b)
edge_hit a b u v ab uv sb sv = grind (arith, nat_tests)

one_turned : (a b u v : ℕ) → one_if (is_edge u v a b) ≡ one_if (is_edge v u b a)
one_turned a b u v = grind (arith, nat_tests)

-- a face has an edge by one of its sides
has_three : (u v a b c : ℕ) → a ≢ b → b ≢ c → c ≢ a
    → one_if (has_edge u v (a ∷ (b ∷ (c ∷ [])))) ≡ one_if (is_edge u v a b) + one_if (is_edge u v b c) + one_if (is_edge u v c a)
has_three u v a b c ab bc ca = grind (arith, nat_tests)

module _ (faces : List (List ℕ)) where
  pub between_low : (c d : ℕ) → start faces c < start faces d → side_between faces c d ≡ face_side faces c d
  between_low c d l = ap (λ (b : Bool). cond b (face_side faces c d) (face_side faces d c)) (lt_yes (start faces c) (start faces d) l)

  pub between_high : (c d : ℕ) → start faces d < start faces c → side_between faces c d ≡ face_side faces d c
  between_high c d l = ap (λ (b : Bool). cond b (face_side faces c d) (face_side faces d c)) (lt_no (start faces c) (start faces d) l)

  of_one : (c d : ℕ) → AreOfOneFace faces c d → AreOfOneFace faces d c
  of_one c d o = record { one = o.other; other = o.one; face = sym o.face }

  rises : (c d : ℕ) → AreOfOneFace faces c d → start faces c < start faces d → start faces d < 2 ^ 32 → IsSide faces (face_side faces c d)
  rises c d o l s = record { ends = o; rising = l; small = s; key = refl }

  is_side : (c d : ℕ) → AreOfOneFace faces c d → start faces c ≢ start faces d → start faces c < 2 ^ 32 → start faces d < 2 ^ 32
      → IsSide faces (side_between faces c d)
  is_side c d o ne sc sd =
      elim (cases_lt (start faces c) (start faces d)) [
        | inl l ↦ subst (IsSide faces) (sym (between_low c d l)) (rises c d o l sd)
        | inr l ↦
            let m : start faces d < start faces c = omega arith in
            subst (IsSide faces) (sym (between_high c d m)) (rises d c (of_one c d o) m sc)
      ]

  -- an edge is that of one side if it is one of the two between its corners
  hit : (c d u v : ℕ) → start faces c ≢ start faces d → start faces c < 2 ^ 32 → start faces d < 2 ^ 32 → u < v → v < 2 ^ 32
      → one_if (side_key (side_between faces c d) == key_of u v)
      ≡ one_if (is_edge u v (start faces c) (start faces d)) + one_if (is_edge v u (start faces c) (start faces d))
  hit c d u v ne sc sd uv sv =
      elim (cases_lt (start faces c) (start faces d)) [
        | inl l ↦
            ap (λ (s : Side). one_if (side_key s == key_of u v)) (between_low c d l)
            ∙ edge_hit (start faces c) (start faces d) u v l uv sd sv
        | inr l ↦
            let m : start faces d < start faces c = omega arith in
            omega (
              arith,
              ap (λ (s : Side). one_if (side_key s == key_of u v)) (between_high c d m),
              edge_hit (start faces d) (start faces c) u v m uv sc sv,
              one_turned (start faces d) (start faces c) u v,
              one_turned (start faces d) (start faces c) v u,
            )
      ]

  module _ (each : All (IsFace (2 ^ 32)) faces) where
    of_face_each : (f : ℕ) → f < length faces → All (IsSide faces) (sides_of_face faces f)
    of_face_each f l =
        let o = three_apart faces (2 ^ 32) f each l in
        let x : Side = side_between faces (3 * f) (3 * f + 1) in
        let y : Side = side_between faces (3 * f + 1) (3 * f + 2) in
        let z : Side = side_between faces (3 * f + 2) (3 * f) in
        All-cons (IsSide faces) x (y ∷ (z ∷ []))
        (is_side (3 * f) (3 * f + 1) (record { one = omega arith; other = omega arith; face = omega arith }) (λ e. omega (arith, o.0))
        (omega (arith, o.0, o.3)) o.3)
        (All-cons (IsSide faces) y (z ∷ [])
        (is_side (3 * f + 1) (3 * f + 2) (record { one = omega arith; other = omega arith; face = omega arith }) o.2 o.3 o.4)
        (All-cons (IsSide faces) z []
        (is_side (3 * f + 2) (3 * f) (record { one = omega arith; other = omega arith; face = omega arith }) (λ e. omega (arith, o.1))
        o.4 (omega (arith, o.0, o.3)))
        (All-nil (IsSide faces))))

    pub listed_each : (f : ℕ) → f ≤ length faces → All (IsSide faces) (all_sides faces f)
    listed_each zero l = subst (All (IsSide faces)) (sym (sides_none faces)) (All-nil (IsSide faces))
    listed_each (suc f) l =
        subst (All (IsSide faces)) (sym (sides_next faces f))
        (All-append (IsSide faces) (all_sides faces f) (sides_of_face faces f) (listed_each f (omega arith))
        (of_face_each f (omega arith)))

    -- the three sides of face f, by their corners
    of_face_all : (f c d : ℕ) → c / 3 ≡ f → d / 3 ≡ f → start faces c < start faces d → Contains (sides_of_face faces f) (face_side faces c d)
    of_face_all f c d ec ed l = by (corner_cases c) (corner_cases d)
      where
        same : (x : ℕ) → c ≡ x → d ≡ x → Contains (sides_of_face faces f) (face_side faces c d)
        same x p q = absurd (omega (arith, ap (start faces) p, ap (start faces) q))

        -- side number k is that between x and y, which are c and d in this order or the other
        first : (k x y : ℕ) → k < 3 → get_or (sides_of_face faces f) k (face_side faces c d) ≡ side_between faces x y → c ≡ x → d ≡ y
            → Contains (sides_of_face faces f) (face_side faces c d)
        first k x y m is p q = (
          k,
          omega arith,
          is
              ∙ (ap (λ (z : ℕ). side_between faces z y) (sym p)
              ∙ (ap (side_between faces c) (sym q) ∙ between_low c d l)),
        )

        second : (k x y : ℕ) → k < 3 → get_or (sides_of_face faces f) k (face_side faces c d) ≡ side_between faces x y → d ≡ x → c ≡ y
            → Contains (sides_of_face faces f) (face_side faces c d)
        second k x y m is p q = (
          k,
          omega arith,
          is
              ∙ (ap (λ (z : ℕ). side_between faces z y) (sym p)
              ∙ (ap (side_between faces d) (sym q) ∙ between_high d c l)),
        )

        by : (c ≡ 3 * (c / 3)) ⊎ ((c ≡ 3 * (c / 3) + 1) ⊎ (c ≡ 3 * (c / 3) + 2))
            → (d ≡ 3 * (d / 3)) ⊎ ((d ≡ 3 * (d / 3) + 1) ⊎ (d ≡ 3 * (d / 3) + 2))
            → Contains (sides_of_face faces f) (face_side faces c d)
        by (inl p) (inl q) = same (3 * f) (omega arith) (omega arith)
        by (inl p) (inr (inl q)) = first 0 (3 * f) (3 * f + 1) (omega arith) refl (omega arith) (omega arith)
        by (inl p) (inr (inr q)) = second 2 (3 * f + 2) (3 * f) (omega arith) refl (omega arith) (omega arith)
        by (inr (inl p)) (inl q) = second 0 (3 * f) (3 * f + 1) (omega arith) refl (omega arith) (omega arith)
        by (inr (inl p)) (inr (inl q)) = same (3 * f + 1) (omega arith) (omega arith)
        by (inr (inl p)) (inr (inr q)) = first 1 (3 * f + 1) (3 * f + 2) (omega arith) refl (omega arith) (omega arith)
        by (inr (inr p)) (inl q) = first 2 (3 * f + 2) (3 * f) (omega arith) refl (omega arith) (omega arith)
        by (inr (inr p)) (inr (inl q)) = second 1 (3 * f + 1) (3 * f + 2) (omega arith) refl (omega arith) (omega arith)
        by (inr (inr p)) (inr (inr q)) = same (3 * f + 2) (omega arith) (omega arith)

    pub listed_all : (f c d : ℕ) → c < 3 * f → c / 3 ≡ d / 3 → start faces c < start faces d
        → Contains (all_sides faces f) (face_side faces c d)
    listed_all zero c d l e r = absurd (omega arith)
    listed_all (suc f) c d l e r =
        subst (λ (s : List Side). Contains s (face_side faces c d)) (sym (sides_next faces f))
        (elim (cases_lt c (3 * f)) [
          | inl m ↦
              Contains-append_left (all_sides faces f) (sides_of_face faces f) (face_side faces c d) (listed_all f c d m e r)
          | inr m ↦
              Contains-append_right (all_sides faces f) (sides_of_face faces f) (face_side faces c d)
              (of_face_all f c d (omega arith) (omega arith) r)
        ])

    module _ (u v : ℕ) (uv : u < v) (sv : v < 2 ^ 32) where
      abbrev key_hits : List Side → ℕ
      key_hits sides = hits side_key (key_of u v) sides

      of_face_counts : (f : ℕ) → f < length faces
          → key_hits (sides_of_face faces f) ≡ one_if (has_edge u v (face_at faces f)) + one_if (has_edge v u (face_at faces f))
      of_face_counts f l =
          let a : ℕ = start faces (3 * f) in
          let b : ℕ = start faces (3 * f + 1) in
          let c : ℕ = start faces (3 * f + 2) in
          let o = three_apart faces (2 ^ 32) f each l in
          let ab : a ≢ b = λ e. omega (arith, o.0) in
          let ca : c ≢ a = λ e. omega (arith, o.1) in
          let sa : a < 2 ^ 32 = omega (arith, o.0, o.3) in
          let x : Side = side_between faces (3 * f) (3 * f + 1) in
          let y : Side = side_between faces (3 * f + 1) (3 * f + 2) in
          let z : Side = side_between faces (3 * f + 2) (3 * f) in
          omega (
            arith,
            hits-cons side_key (key_of u v) x (y ∷ (z ∷ [])),
            hits-cons side_key (key_of u v) y (z ∷ []),
            hits-cons side_key (key_of u v) z [],
            hit (3 * f) (3 * f + 1) u v ab sa o.3 uv sv,
            hit (3 * f + 1) (3 * f + 2) u v o.2 o.3 o.4 uv sv,
            hit (3 * f + 2) (3 * f) u v ca o.4 sa uv sv,
            has_three u v a b c ab o.2 ca,
            has_three v u a b c ab o.2 ca,
            ap (λ (g : List ℕ). one_if (has_edge u v g)) (three faces (2 ^ 32) f each l),
            ap (λ (g : List ℕ). one_if (has_edge v u g)) (three faces (2 ^ 32) f each l),
          )

      pub listed_counts : (f : ℕ) → f ≤ length faces → key_hits (all_sides faces f) ≡ faces_at_edge (take f faces) u v
      listed_counts zero l = ap key_hits (sides_none faces)
      listed_counts (suc f) l =
          let e : suc f ≡ f + 1 = omega arith in
          omega (
            arith,
            ap key_hits (sides_next faces f),
            sum_by-append (λ s. one_if (side_key s == key_of u v)) (all_sides faces f) (sides_of_face faces f),
            listed_counts f (omega arith),
            of_face_counts f (omega arith),
            ap (λ (k : ℕ). faces_at_edge (take k faces) u v) e,
            edge_count_more u v faces f [] (omega arith),
            edge_count_more v u faces f [] (omega arith),
          )

-- sorted, they are all sides
pub sides_sorted : (faces : List (List ℕ)) (xs from ys zs : List Side) → All (IsFace (2 ^ 32)) faces
    → xs ≡ all_sides faces (length faces) → from ≡ xs → zs ≡ ys → IsPermutation from ys → IsNonDecreasingBy side_key ys
    → AreSides faces zs
sides_sorted faces xs from ys zs each e f g moved sorted =
    let p : IsPermutation (all_sides faces (length faces)) zs =
    subst (λ (t : List Side). IsPermutation t zs) (f ∙ e) (subst (λ (t : List Side). IsPermutation from t) (sym g) moved) in
    record {
      each =
          All-permutation (IsSide faces) (all_sides faces (length faces)) zs p (listed_each faces each (length faces) (omega arith));
      all = λ c d o l.
          Contains-permutation (all_sides faces (length faces)) zs (face_side faces c d) p
          (listed_all faces each (length faces) c d o.one o.face l);
      counts = λ u v uv sv.
          sum_by-IsPermutation (λ s. one_if (side_key s == key_of u v)) (all_sides faces (length faces)) zs p
          ∙ (listed_counts faces each u v uv sv (length faces) (omega arith)
          ∙ ap (λ (fs : List (List ℕ)). faces_at_edge fs u v) (take_all (length faces) faces (omega arith)));
      sorted = subst (λ (t : List Side). IsNonDecreasingBy side_key t) (sym g) sorted;
    }
