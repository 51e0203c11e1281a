-- No edge stands twice after a flip that did not.
--
-- Both ends of the new edge are corners of no face but the two of the quad, of which each has one alone. So the new edge stood in no
-- face, and stands once each way now; all other directed edges stand as often as before, or less often.
use Rattle.std.proofs.Common.{ℕ, suc, ◌≡◌, ◌+◌, ◌<◌, ◌≤◌, ◌==◌, inl, inr, refl, ap, sym, ◌∙◌, arith, Bool, true, false, List, [], ◌∷◌, length, get_or}
use Rattle.std.specs.List.{All}
use Rattle.std.proofs.lemmas.Bool.{eq-eqb}
use Rattle.std.proofs.lemmas.Bool.Decides.{nat_tests}
use Rattle.std.proofs.lemmas.List.Sums.{sum_by-cons}
use Rattle.geo_sign.specs.Point.{Point}
use Rattle.mesh.specs.Meshes.{is_vertex_of}
use Rattle.mesh_edges.specs.Edges.{has_edge, faces_with_edge, face_at}
use Rattle.mesh_edges.proofs.Counts.{one_if}
use Rattle.mesh_edges.proofs.FaceEdges.{ends_in}
use Rattle.mesh_flips.specs.Turns.{IsTriangle}
use Rattle.mesh_flips.specs.Quads.{IsQuad, flipped}
use Rattle.mesh_flips.specs.Flips.{KeepsSingle}
use Rattle.mesh_flips.specs.Clear.{IsClear, IsFree}
use Rattle.mesh_flips.specs.declared.quad.Quad.{Quad}
use Rattle.mesh_flips.proofs.Sides.{sides, one_side, three_sides, turned_sides}
use Rattle.mesh_flips.proofs.Kept.{first_triangle, second_triangle, new_first, new_second, edges_after}
use Rattle.mesh_flips.proofs.Crossings.{same_or_not}

-- an edge's ends are corners
pub has_ends : (u v : ℕ) (f : List ℕ) → has_edge u v f ≡ true → (is_vertex_of u f ≡ true) × (is_vertex_of v f ≡ true)
has_ends u v f e =
    ((ends_in (λ t. t == u) f u v e).0 (eq-eqb u u refl), (ends_in (λ t. t == v) f u v e).1 (eq-eqb v v refl))

-- no face has it
none_has : (u v : ℕ) (faces : List (List ℕ)) → ((i : ℕ) → i < length faces → has_edge u v (get_or faces i []) ≡ true → ⊥)
    → faces_with_edge u v faces ≡ 0
none_has u v [] h = refl
none_has u v (f ∷ faces) h =
    omega (
      arith,
      sum_by-cons (λ g. one_if (has_edge u v g)) f faces,
      none (has_edge u v f) refl,
      none_has u v faces (λ i l. h (suc i) (omega arith)),
    )
  where
    none : (b : Bool) → has_edge u v f ≡ b → one_if (has_edge u v f) ≡ 0
    none true e = absurd (h 0 (omega arith) e)
    none false e = ap one_if e

-- an edge that is another one

zero_first : (u v a b : ℕ) → (u ≡ a → ⊥) → one_side u v a b ≡ 0
unfolding one_side
zero_first u v a b h = grind (arith, nat_tests)

zero_second : (u v a b : ℕ) → (v ≡ b → ⊥) → one_side u v a b ≡ 0
unfolding one_side
zero_second u v a b h = grind (arith, nat_tests)

at_most_one : (u v a b : ℕ) → one_side u v a b ≤ 1
unfolding one_side
at_most_one u v a b = grind (arith, nat_tests)

has_no : (u v : ℕ) (f : List ℕ) → sides u v f ≡ 0 → has_edge u v f ≡ true → ⊥
unfolding sides
has_no u v f z e = omega (arith, ap one_if e)

module _ (points : List Point) (n : ℕ) (faces : List (List ℕ)) (one other : ℕ) (q : Quad) (each : All (IsTriangle n) faces)
    (lie : IsQuad faces one other q) (free : IsFree points faces one other q) where
  -- no face has the new edge
  no_new : (u v : ℕ)
      → sides u v (q.a ∷ q.b ∷ q.c ∷ []) ≡ 0 → sides u v (q.b ∷ q.a ∷ q.d ∷ []) ≡ 0
      → ((f : List ℕ) → IsClear points q f → has_edge u v f ≡ true → ⊥) → faces_with_edge u v faces ≡ 0
  no_new u v first second others =
      none_has u v faces
      (λ i l e. elim (same_or_not i one) [
        | inl s ↦
            has_no u v (face_at faces i)
            (ap (λ (k : ℕ). sides u v (face_at faces k)) s
            ∙ (turned_sides n u v _ _ (each one [] lie.one_within) lie.first ∙ first)) e
        | inr a ↦ elim (same_or_not i other) [
          | inl s ↦
              has_no u v (face_at faces i)
              (ap (λ (k : ℕ). sides u v (face_at faces k)) s
              ∙ (turned_sides n u v _ _ (each other [] lie.other_within) lie.second ∙ second)) e
          | inr b ↦ others (face_at faces i) (free.clear i l a b) e
        ]
      ])

  no_there : faces_with_edge q.c q.d faces ≡ 0
  no_there =
      let s = first_triangle n faces one other q each lie in
      let t = second_triangle n faces one other q each lie in
      no_new q.c q.d
      (omega (
        arith,
        three_sides q.c q.d q.a q.b q.c s.0 s.1 s.2,
        zero_first q.c q.d q.a q.b s.2,
        zero_first q.c q.d q.b q.c (λ e. s.1 (sym e)),
        zero_second q.c q.d q.c q.a (λ e. t.1 (sym e)),
      ))
      (omega (
        arith,
        three_sides q.c q.d q.b q.a q.d t.0 t.1 t.2,
        zero_first q.c q.d q.b q.a (λ e. s.1 (sym e)),
        zero_first q.c q.d q.a q.d s.2,
        zero_first q.c q.d q.d q.b lie.far,
      ))
      (λ f clear e. let ends = has_ends q.c q.d f e in clear.new ends.0 ends.1)

  no_back : faces_with_edge q.d q.c faces ≡ 0
  no_back =
      let s = first_triangle n faces one other q each lie in
      let t = second_triangle n faces one other q each lie in
      no_new q.d q.c
      (omega (
        arith,
        three_sides q.d q.c q.a q.b q.c s.0 s.1 s.2,
        zero_first q.d q.c q.a q.b (λ e. t.1 (sym e)),
        zero_first q.d q.c q.b q.c t.2,
        zero_first q.d q.c q.c q.a (λ e. lie.far (sym e)),
      ))
      (omega (
        arith,
        three_sides q.d q.c q.b q.a q.d t.0 t.1 t.2,
        zero_second q.d q.c q.b q.a s.2,
        zero_second q.d q.c q.a q.d lie.far,
        zero_second q.d q.c q.d q.b (λ e. s.1 (sym e)),
      ))
      (λ f clear e. let ends = has_ends q.d q.c f e in clear.new ends.1 ends.0)

  -- what changes: the old edge goes, the new one comes
  change : (u v : ℕ)
      → faces_with_edge u v (flipped faces one other q) + (one_side u v q.a q.b + one_side u v q.b q.a)
      ≡ faces_with_edge u v faces + (one_side u v q.c q.d + one_side u v q.d q.c)
  change u v =
      let s = first_triangle n faces one other q each lie in
      let t = second_triangle n faces one other q each lie in
      let y = new_first n faces one other q each lie in
      let z = new_second n faces one other q each lie in
      omega (
        arith,
        edges_after n faces one other q each lie u v,
        three_sides u v q.a q.b q.c s.0 s.1 s.2,
        three_sides u v q.b q.a q.d t.0 t.1 t.2,
        three_sides u v q.a q.d q.c y.0 y.1 y.2,
        three_sides u v q.d q.b q.c z.0 z.1 z.2,
      )

  pub flip_single : KeepsSingle faces (flipped faces one other q)
  flip_single u v once =
      elim (same_or_not u q.c) [
        | inl e ↦
            let back : one_side u v q.d q.c ≡ 0 = zero_first u v q.d q.c (λ f. lie.far (sym e ∙ f)) in
            elim (same_or_not v q.d) [
              | inl f ↦
                  let old : faces_with_edge u v faces ≡ 0 =
                  ap (λ (w : ℕ). faces_with_edge w v faces) e
                  ∙ (ap (λ (w : ℕ). faces_with_edge q.c w faces) f ∙ no_there) in
                  omega (arith, change u v, at_most_one u v q.c q.d)
              | inr f ↦ omega (arith, change u v, zero_second u v q.c q.d f)
            ]
        | inr e ↦
            let there : one_side u v q.c q.d ≡ 0 = zero_first u v q.c q.d e in
            elim (same_or_not u q.d) [
              | inr f ↦ omega (arith, change u v, zero_first u v q.d q.c f)
              | inl f ↦ elim (same_or_not v q.c) [
                | inl g ↦
                    let old : faces_with_edge u v faces ≡ 0 =
                    ap (λ (w : ℕ). faces_with_edge w v faces) f
                    ∙ (ap (λ (w : ℕ). faces_with_edge q.d w faces) g ∙ no_back) in
                    omega (arith, change u v, at_most_one u v q.d q.c)
                | inr g ↦ omega (arith, change u v, zero_second u v q.d q.c g)
              ]
            ]
      ]
