-- The vertices at the three corners of a face.
use Rattle.std.proofs.Common.{ℕ, ◌≡◌, ◌+◌, ◌*◌, ◌/◌, ◌%◌, ◌<◌, ◌⊎◌, inl, inr, refl, ap, sym, ◌∙◌, subst, arith, List, [], ◌∷◌, length, get_or}
use Rattle.std.specs.List.{All}
use Rattle.std.proofs.lemmas.Bool.{cases_lt}
use Rattle.mesh.specs.Meshes.{IsFace}
use Rattle.mesh_edges.specs.Edges.{face_at}
use Rattle.mesh_edges.specs.HalfEdges.{start}

-- a corner is the first, the second or the third of its face
pub corner_cases : (c : ℕ) → (c ≡ 3 * (c / 3)) ⊎ ((c ≡ 3 * (c / 3) + 1) ⊎ (c ≡ 3 * (c / 3) + 2))
corner_cases c =
    elim (cases_lt (c % 3) 1) [
      | inl l ↦ inl (omega arith)
      | inr l ↦ elim (cases_lt (c % 3) 2) [ inl m ↦ inr (inl (omega arith)) | inr m ↦ inr (inr (omega arith)) ]
    ]

module _ (faces : List (List ℕ)) where
  start_of : (f k c : ℕ) → k < 3 → c ≡ 3 * f + k → start faces c ≡ get_or (face_at faces f) k 0
  start_of f k c l e =
      let q : c / 3 ≡ f = omega arith in
      let r : c % 3 ≡ k = omega arith in
      ap (λ (i : ℕ). get_or (get_or faces i []) (c % 3) 0) q ∙ ap (λ (j : ℕ). get_or (get_or faces f []) j 0) r

  -- a face is its three corners
  three_of : (m f : ℕ) (g : List ℕ) → face_at faces f ≡ g → IsFace m g
      → face_at faces f ≡ start faces (3 * f) ∷ (start faces (3 * f + 1) ∷ (start faces (3 * f + 2) ∷ []))
  three_of m f [] e o = absurd o
  three_of m f (a ∷ []) e o = absurd o
  three_of m f (a ∷ b ∷ []) e o = absurd o
  three_of m f (a ∷ b ∷ c ∷ d ∷ x) e o = absurd o
  three_of m f (a ∷ b ∷ c ∷ []) e o =
      let s : start faces (3 * f) ≡ a = start_of f 0 (3 * f) (omega arith) (omega arith) ∙ ap (λ (g : List ℕ). get_or g 0 0) e in
      let t : start faces (3 * f + 1) ≡ b = start_of f 1 (3 * f + 1) (omega arith) refl ∙ ap (λ (g : List ℕ). get_or g 1 0) e in
      let w : start faces (3 * f + 2) ≡ c = start_of f 2 (3 * f + 2) (omega arith) refl ∙ ap (λ (g : List ℕ). get_or g 2 0) e in
      e
      ∙ (ap (λ (x : ℕ). x ∷ (b ∷ (c ∷ []))) (sym s)
      ∙ (ap (λ (x : ℕ). start faces (3 * f) ∷ (x ∷ (c ∷ []))) (sym t)
      ∙ ap (λ (x : ℕ). start faces (3 * f) ∷ (start faces (3 * f + 1) ∷ (x ∷ []))) (sym w)))

  pub three : (m f : ℕ) → All (IsFace m) faces → f < length faces
      → face_at faces f ≡ start faces (3 * f) ∷ (start faces (3 * f + 1) ∷ (start faces (3 * f + 2) ∷ []))
  three m f each l = three_of m f (face_at faces f) refl (each f [] l)

  -- which are distinct vertices, the smallest first
  pub three_apart : (m f : ℕ) → All (IsFace m) faces → f < length faces
      → IsFace m (start faces (3 * f) ∷ (start faces (3 * f + 1) ∷ (start faces (3 * f + 2) ∷ [])))
  three_apart m f each l = subst (IsFace m) (three m f each l) (each f [] l)

  -- all corners are at vertices of the mesh
  pub start_below : (m c : ℕ) → All (IsFace m) faces → c < 3 * length faces → start faces c < m
  start_below m c each l =
      let f : ℕ = c / 3 in
      let o = three_apart m (c / 3) each (omega arith) in
      elim (corner_cases c) [
        | inl e ↦ omega (arith, ap (start faces) e, o.0, o.3)
        | inr (inl e) ↦ omega (arith, ap (start faces) e, o.3)
        | inr (inr e) ↦ omega (arith, ap (start faces) e, o.4)
      ]
