-- The edges of one face: which one goes up and which down, by any test of its vertices.
--
-- A face has three vertices and three edges round it. By cases on them: of two edges that lead from a vertex which fails the
-- test to one that passes, both are one (same_edge); and where some vertex passes and some fails, an edge leads from one
-- that passes to one that fails (down_edge_of, by the eight outcomes, of which two have no such vertices).
use Rattle.std.proofs.Common.{ℕ, ◌≡◌, ◌<◌, ◌≤◌, ◌^◌, ◌==◌, ◌&&◌, ◌||◌, ◌⊎◌, refl, ap, sym, ◌∙◌, arith, Bool, true, false, not}
use Rattle.std.proofs.Common.{List, [], ◌∷◌, inl, inr}
use Rattle.std.specs.List.{list_any}
use Rattle.std.proofs.lemmas.Bool.{false≢true, eqb-true, and_parts, or_left, or_right, or_cases, eq-eqb}
use Rattle.mesh.specs.Meshes.{IsFace}
use Rattle.mesh_edges.specs.Edges.{is_edge, has_edge}
use Rattle.mesh_edges.specs.Pairs.{key_of}

edge_parts : (u v a b : ℕ) → is_edge u v a b ≡ true → (u ≡ a) × (v ≡ b)
edge_parts u v a b e = let p = and_parts (u == a) (v == b) e in (eqb-true u a p.0, eqb-true v b p.1)

edge_itself : (a b : ℕ) → is_edge a b a b ≡ true
edge_itself a b = ap (λ (p : Bool). p && (b == b)) (eq-eqb a a refl) ∙ eq-eqb b b refl

-- the edge is one of the three
abbrev OneOf : (a b c u v : ℕ) → Type 0
OneOf a b c u v = ((u ≡ a) × (v ≡ b)) ⊎ (((u ≡ b) × (v ≡ c)) ⊎ ((u ≡ c) × (v ≡ a)))

one_of : (a b c u v : ℕ) → has_edge u v (a ∷ b ∷ c ∷ []) ≡ true → OneOf a b c u v
one_of a b c u v e =
    elim (or_cases (is_edge u v a b) (is_edge u v b c || is_edge u v c a) e) [
      | inl p ↦ inl (edge_parts u v a b p)
      | inr p ↦ elim (or_cases (is_edge u v b c) (is_edge u v c a) p) [
        | inl q ↦ inr (inl (edge_parts u v b c q))
        | inr q ↦ inr (inr (edge_parts u v c a q))
      ]
    ]

-- Of a face's edges one alone goes from a vertex that fails the test to one that passes.
pub same_edge : (test : ℕ → Bool) (face : List ℕ) (s t u v : ℕ) → has_edge s t face ≡ true → has_edge u v face ≡ true
    → test s ≡ false → test t ≡ true → test u ≡ false → test v ≡ true → (s ≡ u) × (t ≡ v)
same_edge test [] s t u v e f _ _ _ _ = absurd (false≢true e)
same_edge test (a ∷ []) s t u v e f _ _ _ _ = absurd (false≢true e)
same_edge test (a ∷ b ∷ []) s t u v e f _ _ _ _ = absurd (false≢true e)
same_edge test (a ∷ b ∷ c ∷ d ∷ x) s t u v e f _ _ _ _ = absurd (false≢true e)
same_edge test (a ∷ b ∷ c ∷ []) s t u v e f low_s high_t low_u high_v = by (one_of a b c s t e) (one_of a b c u v f)
  where
    by : OneOf a b c s t → OneOf a b c u v → (s ≡ u) × (t ≡ v)
    by (inl p) (inl q) = (cc, cc)
    by (inl p) (inr (inl q)) = (cc, cc)
    by (inl p) (inr (inr q)) = (cc, cc)
    by (inr (inl p)) (inl q) = (cc, cc)
    by (inr (inl p)) (inr (inl q)) = (cc, cc)
    by (inr (inl p)) (inr (inr q)) = (cc, cc)
    by (inr (inr p)) (inl q) = (cc, cc)
    by (inr (inr p)) (inr (inl q)) = (cc, cc)
    by (inr (inr p)) (inr (inr q)) = (cc, cc)

abbrev Passes : (ℕ → Bool) → (a b c : ℕ) → Type 0
Passes test a b c = (test a || (test b || (test c || false))) ≡ true

-- The ends of a face's edge are vertices of the face.
pub ends_in : (test : ℕ → Bool) (face : List ℕ) (u v : ℕ) → has_edge u v face ≡ true
    → (test u ≡ true → list_any test face ≡ true) × (test v ≡ true → list_any test face ≡ true)
ends_in test [] u v e = absurd (false≢true e)
ends_in test (a ∷ []) u v e = absurd (false≢true e)
ends_in test (a ∷ b ∷ []) u v e = absurd (false≢true e)
ends_in test (a ∷ b ∷ c ∷ d ∷ x) u v e = absurd (false≢true e)
ends_in test (a ∷ b ∷ c ∷ []) u v e = by (one_of a b c u v e)
  where
    first : test a ≡ true → Passes test a b c
    first p = or_left (test a) (test b || (test c || false)) p

    second : test b ≡ true → Passes test a b c
    second p = or_right (test a) (test b || (test c || false)) (or_left (test b) (test c || false) p)

    third : test c ≡ true → Passes test a b c
    third p = or_right (test a) (test b || (test c || false)) (or_right (test b) (test c || false) (or_left (test c) false p))

    by : OneOf a b c u v → (test u ≡ true → Passes test a b c) × (test v ≡ true → Passes test a b c)
    by (inl p) = (λ q. first (ap test (sym p.0) ∙ q), λ q. second (ap test (sym p.1) ∙ q))
    by (inr (inl p)) = (λ q. second (ap test (sym p.0) ∙ q), λ q. third (ap test (sym p.1) ∙ q))
    by (inr (inr p)) = (λ q. third (ap test (sym p.0) ∙ q), λ q. first (ap test (sym p.1) ∙ q))

abbrev Down : (ℕ → Bool) → (a b c : ℕ) → Type 0
Down test a b c = (u : ℕ) × (v : ℕ) × (has_edge u v (a ∷ b ∷ c ∷ []) ≡ true) × (test u ≡ true) × (test v ≡ false)

-- A face with vertices of both kinds has an edge from one that passes to one that fails.
pub down_edge_of : (test : ℕ → Bool) (face : List ℕ) (n : ℕ) → IsFace n face
    → (list_any test face && list_any (λ v. not (test v)) face) ≡ true
    → (u : ℕ) × (v : ℕ) × (has_edge u v face ≡ true) × (test u ≡ true) × (test v ≡ false)
down_edge_of test [] n o e = absurd o
down_edge_of test (a ∷ []) n o e = absurd o
down_edge_of test (a ∷ b ∷ []) n o e = absurd o
down_edge_of test (a ∷ b ∷ c ∷ d ∷ x) n o e = absurd o
down_edge_of test (a ∷ b ∷ c ∷ []) n o e = by (test a) (test b) (test c) refl refl refl
  where
    first : test a ≡ true → test b ≡ false → Down test a b c
    first p q = (a, b, or_left (is_edge a b a b) (is_edge a b b c || is_edge a b c a) (edge_itself a b), p, q)

    second : test b ≡ true → test c ≡ false → Down test a b c
    second p q = (
      b,
      c,
      or_right (is_edge b c a b) (is_edge b c b c || is_edge b c c a)
          (or_left (is_edge b c b c) (is_edge b c c a) (edge_itself b c)),
      p,
      q,
    )

    third : test c ≡ true → test a ≡ false → Down test a b c
    third p q = (
      c,
      a,
      or_right (is_edge c a a b) (is_edge c a b c || is_edge c a c a)
          (or_right (is_edge c a b c) (is_edge c a c a) (edge_itself c a)),
      p,
      q,
    )

    none : (p q r : Bool) → test a ≡ p → test b ≡ q → test c ≡ r
        → ((p || (q || (r || false))) && (not p || (not q || (not r || false)))) ≡ false → Down test a b c
    none p q r f g h same = absurd (false≢true (sym same ∙ (same_test p q r f g h ∙ e)))
      where
        same_test : (p q r : Bool) → test a ≡ p → test b ≡ q → test c ≡ r
            → ((p || (q || (r || false))) && (not p || (not q || (not r || false))))
            ≡ (list_any test (a ∷ b ∷ c ∷ []) && list_any (λ v. not (test v)) (a ∷ b ∷ c ∷ []))
        same_test p q r f g h = cc

    by : (p q r : Bool) → test a ≡ p → test b ≡ q → test c ≡ r → Down test a b c
    by true false r f g h = first f g
    by true true false f g h = second g h
    by true true true f g h = none true true true f g h refl
    by false true false f g h = second g h
    by false false true f g h = third h f
    by false true true f g h = third h f
    by false false false f g h = none false false false f g h refl

-- Vertices of a face's edge are below the number of vertices.
pub edge_within : (n u v : ℕ) (face : List ℕ) → IsFace n face → has_edge u v face ≡ true → (u < n) × (v < n)
edge_within n u v [] o e = absurd o
edge_within n u v (a ∷ []) o e = absurd o
edge_within n u v (a ∷ b ∷ []) o e = absurd o
edge_within n u v (a ∷ b ∷ c ∷ d ∷ x) o e = absurd o
edge_within n u v (a ∷ b ∷ c ∷ []) o e = by (one_of a b c u v e)
  where
    by : OneOf a b c u v → (u < n) × (v < n)
    by (inl p) = (omega (arith, o.0, o.3), omega (arith, o.3))
    by (inr (inl p)) = (omega (arith, o.3), omega (arith, o.4))
    by (inr (inr p)) = (omega (arith, o.4), omega (arith, o.0, o.3))

-- a face among n vertices is one among more
pub face_among_more : (n m : ℕ) (face : List ℕ) → n ≤ m → IsFace n face → IsFace m face
face_among_more n m [] l o = absurd o
face_among_more n m (a ∷ []) l o = absurd o
face_among_more n m (a ∷ b ∷ []) l o = absurd o
face_among_more n m (a ∷ b ∷ c ∷ d ∷ x) l o = absurd o
face_among_more n m (a ∷ b ∷ c ∷ []) l o = (o.0, o.1, o.2, omega (arith, o.3), omega (arith, o.4))

-- a key tells the pair
pub key_parts : (a b u v : ℕ) → b < 2 ^ 32 → v < 2 ^ 32 → key_of a b ≡ key_of u v → (a ≡ u) × (b ≡ v)
key_parts a b u v l m e = (omega arith, omega arith)
