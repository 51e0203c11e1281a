-- Half edges around a vertex: each has one before it and one after it, at the same vertex.
use Rattle.std.proofs.Common.{ℕ, zero, suc, ◌≡◌, ◌≢◌, ◌+◌, ◌-◌, ◌*◌, ◌/◌, ◌%◌, ◌<◌, ◌≤◌, ◌==◌, ◌⊎◌, inl, inr, refl, ap, sym, ◌∙◌, subst, arith}
use Rattle.std.proofs.Common.{List, [], ◌∷◌, length, get_or}
use Rattle.std.specs.List.{All}
use Rattle.std.proofs.lemmas.Bool.Decides.{nat_tests}
use Rattle.mesh.specs.Meshes.{IsFace}
use Rattle.mesh_edges.specs.Edges.{face_at}
use Rattle.mesh_edges.specs.HalfEdges.{start, behind, ahead, around, IsTwin, ArePaired}
use Rattle.mesh_edges.proofs.Paired.{start_at}

-- one of the three half edges of a face
pub parts : (h : ℕ) → (h % 3 ≡ 0) ⊎ ((h % 3 ≡ 1) ⊎ (h % 3 ≡ 2))
parts h = by (h % 3) (omega arith)
  where
    by : (r : ℕ) → r < 3 → (r ≡ 0) ⊎ ((r ≡ 1) ⊎ (r ≡ 2))
    by zero l = inl refl
    by (suc zero) l = inr (inl refl)
    by (suc (suc zero)) l = inr (inr refl)
    by (suc (suc (suc r))) l = absurd (omega arith)

pub behind_last : (h : ℕ) → h % 3 ≡ 2 → behind h ≡ h - 2
behind_last h e = rw e refl

pub behind_other : (h : ℕ) → h % 3 ≢ 2 → behind h ≡ h + 1
behind_other h ne = grind (arith, nat_tests)

pub ahead_first : (h : ℕ) → h % 3 ≡ 0 → ahead h ≡ h + 2
ahead_first h e = rw e refl

pub ahead_other : (h : ℕ) → h % 3 ≢ 0 → ahead h ≡ h - 1
ahead_other h ne = grind (arith, nat_tests)

pub behind_ahead : (h : ℕ) → behind (ahead h) ≡ h
behind_ahead h =
    elim (parts h) [
      | inl e ↦
          ap behind (ahead_first h e) ∙ (behind_last (h + 2) (omega arith) ∙ omega arith)
      | inr (inl e) ↦ ap behind (ahead_other h (λ q. omega arith)) ∙ (behind_other (h - 1) (λ q. omega arith) ∙ omega arith)
      | inr (inr e) ↦ ap behind (ahead_other h (λ q. omega arith)) ∙ (behind_other (h - 1) (λ q. omega arith) ∙ omega arith)
    ]

pub ahead_behind : (h : ℕ) → ahead (behind h) ≡ h
ahead_behind h =
    elim (parts h) [
      | inl e ↦ ap ahead (behind_other h (λ q. omega arith)) ∙ (ahead_other (h + 1) (λ q. omega arith) ∙ omega arith)
      | inr (inl e) ↦ ap ahead (behind_other h (λ q. omega arith)) ∙ (ahead_other (h + 1) (λ q. omega arith) ∙ omega arith)
      | inr (inr e) ↦ ap ahead (behind_last h e) ∙ (ahead_first (h - 2) (omega arith) ∙ omega arith)
    ]

pub behind_within : (h m : ℕ) → h < 3 * m → behind h < 3 * m
behind_within h m l =
    elim (parts h) [
      | inl e ↦ omega (arith, behind_other h (λ q. omega arith))
      | inr (inl e) ↦ omega (arith, behind_other h (λ q. omega arith))
      | inr (inr e) ↦ omega (arith, behind_last h e)
    ]

pub ahead_within : (h m : ℕ) → h < 3 * m → ahead h < 3 * m
ahead_within h m l =
    elim (parts h) [
      | inl e ↦ omega (arith, ahead_first h e)
      | inr (inl e) ↦ omega (arith, ahead_other h (λ q. omega arith))
      | inr (inr e) ↦ omega (arith, ahead_other h (λ q. omega arith))
    ]

-- the vertices of a face differ
distinct : (n : ℕ) (g : List ℕ) (i j : ℕ) → IsFace n g → i < 3 → j < 3 → i ≢ j → get_or g i 0 ≢ get_or g j 0
distinct n [] i j o l m ne = absurd o
distinct n (a ∷ []) i j o l m ne = absurd o
distinct n (a ∷ b ∷ []) i j o l m ne = absurd o
distinct n (a ∷ b ∷ c ∷ d ∷ x) i j o l m ne = absurd o
distinct n (a ∷ b ∷ c ∷ []) zero zero (ab, ac, bc, nb, nc) l m ne = absurd (ne refl)
distinct n (a ∷ b ∷ c ∷ []) zero (suc zero) (ab, ac, bc, nb, nc) l m ne = λ e. omega arith
distinct n (a ∷ b ∷ c ∷ []) zero (suc (suc zero)) (ab, ac, bc, nb, nc) l m ne = λ e. omega arith
distinct n (a ∷ b ∷ c ∷ []) (suc zero) zero (ab, ac, bc, nb, nc) l m ne = λ e. omega arith
distinct n (a ∷ b ∷ c ∷ []) (suc zero) (suc zero) (ab, ac, bc, nb, nc) l m ne = absurd (ne refl)
distinct n (a ∷ b ∷ c ∷ []) (suc zero) (suc (suc zero)) (ab, ac, bc, nb, nc) l m ne = bc
distinct n (a ∷ b ∷ c ∷ []) (suc (suc zero)) zero (ab, ac, bc, nb, nc) l m ne = λ e. omega arith
distinct n (a ∷ b ∷ c ∷ []) (suc (suc zero)) (suc zero) (ab, ac, bc, nb, nc) l m ne = λ e. bc (sym e)
distinct n (a ∷ b ∷ c ∷ []) (suc (suc zero)) (suc (suc zero)) (ab, ac, bc, nb, nc) l m ne = absurd (ne refl)
distinct n (a ∷ b ∷ c ∷ []) (suc (suc (suc i))) j o l m ne = absurd (omega arith)
distinct n (a ∷ b ∷ c ∷ []) zero (suc (suc (suc j))) o l m ne = absurd (omega arith)
distinct n (a ∷ b ∷ c ∷ []) (suc zero) (suc (suc (suc j))) o l m ne = absurd (omega arith)
distinct n (a ∷ b ∷ c ∷ []) (suc (suc zero)) (suc (suc (suc j))) o l m ne = absurd (omega arith)

corner_in : (n : ℕ) (g : List ℕ) (k : ℕ) → IsFace n g → k < 3 → get_or g k 0 < n
corner_in n [] k o l = absurd o
corner_in n (a ∷ []) k o l = absurd o
corner_in n (a ∷ b ∷ []) k o l = absurd o
corner_in n (a ∷ b ∷ c ∷ d ∷ x) k o l = absurd o
corner_in n (a ∷ b ∷ c ∷ []) zero (ab, ac, bc, nb, nc) l = omega arith
corner_in n (a ∷ b ∷ c ∷ []) (suc zero) (ab, ac, bc, nb, nc) l = nb
corner_in n (a ∷ b ∷ c ∷ []) (suc (suc zero)) (ab, ac, bc, nb, nc) l = nc
corner_in n (a ∷ b ∷ c ∷ []) (suc (suc (suc k))) o l = absurd (omega arith)

module _ (n : ℕ) (faces : List (List ℕ)) (each : All (IsFace n) faces) where
  -- a half edge begins at one of the vertices
  pub start_in : (h : ℕ) → h < 3 * length faces → start faces h < n
  start_in h m = corner_in n (face_at faces (h / 3)) (h % 3) (each (h / 3) [] (omega arith)) (omega arith)

  -- a half edge ends at another vertex
  pub ends_away : (h : ℕ) → h < 3 * length faces → start faces (behind h) ≢ start faces h
  ends_away h l e =
      elim (parts h) [
        | inl r ↦ other 0 1 (omega arith) (omega arith) (λ q. omega arith) (omega arith)
            (behind_other h (λ q. omega arith) ∙ omega arith)
        | inr (inl r) ↦ other 1 2 (omega arith) (omega arith) (λ q. omega arith) (omega arith)
            (behind_other h (λ q. omega arith) ∙ omega arith)
        | inr (inr r) ↦ other 2 0 (omega arith) (omega arith) (λ q. omega arith) (omega arith)
            (behind_last h r ∙ omega arith)
      ]
    where
      f : ℕ
      f = h / 3

      other : (i j : ℕ) → i < 3 → j < 3 → i ≢ j → h ≡ 3 * (h / 3) + i → behind h ≡ 3 * (h / 3) + j → ⊥
      other i j a b ne here there =
          distinct n (face_at faces (h / 3)) j i (each (h / 3) [] (omega arith)) b a (λ q. ne (sym q))
          (sym (start_at faces (h / 3) j b) ∙ (sym (ap (start faces) there) ∙ (e ∙ (ap (start faces) here ∙ start_at faces (h / 3) i a))))

  module _ (twins : List ℕ) (paired : ArePaired faces twins) where
    pub around_within : (h : ℕ) → h < length twins → around twins h < length twins
    around_within h l =
        (paired.each (ahead h) (omega (arith, ahead_within h (length faces) (omega (arith, paired.count)), paired.count))).within

    pub ahead_in : (h : ℕ) → h < length twins → ahead h < length twins
    ahead_in h l = omega (arith, ahead_within h (length faces) (omega (arith, paired.count)), paired.count)

    pub behind_in : (h : ℕ) → h < length twins → behind h < length twins
    behind_in h l = omega (arith, behind_within h (length faces) (omega (arith, paired.count)), paired.count)

    -- at the same vertex
    pub around_start : (h : ℕ) → h < length twins → start faces (around twins h) ≡ start faces h
    around_start h l = (paired.each (ahead h) (ahead_in h l)).edge ∙ ap (start faces) (behind_ahead h)

    -- two half edges have two after them
    pub around_once : (g h : ℕ) → g < length twins → h < length twins → around twins g ≡ around twins h → g ≡ h
    around_once g h l m e =
        let a = paired.each (ahead g) (ahead_in g l) in
        let b = paired.each (ahead h) (ahead_in h m) in
        let same : ahead g ≡ ahead h = sym a.back ∙ (ap (λ (k : ℕ). get_or twins k 0) e ∙ b.back) in
        sym (behind_ahead g) ∙ (ap behind same ∙ behind_ahead h)

    pub away : (h : ℕ) → h < length twins → start faces (behind h) ≢ start faces h
    away h l = ends_away h (omega (arith, paired.count))
