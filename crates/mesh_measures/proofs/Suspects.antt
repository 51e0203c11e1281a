-- What odd sides and second corners say of edges and vertices.
--
-- The edges with other than two faces are those of odd sides, one for one (edges_counted). A vertex that is marked is not manifold: it
-- has one of these edges, or a corner that is the first of its set behind another corner, with which no neighbors connect it. A vertex
-- that is not marked is: from each corner but the first at the vertex, its set leads to a smaller one, and so on to the first.
use Rattle.std.proofs.Common.{ℕ, zero, suc, ◌≡◌, ◌≢◌, ◌<◌, ◌≤◌, ◌^◌, ◌⊎◌, inl, inr, refl, ap, sym, ◌∙◌, subst, arith, Bool, true, false, List, length, get_or}
use Rattle.std.specs.List.{All}
use Rattle.std.proofs.lemmas.Bool.{cases_lt, cases_eq, false≢true}
use Rattle.mesh.specs.Meshes.{IsFace}
use Rattle.mesh_edges.specs.Pairs.{key_of}
use Rattle.mesh_edges.proofs.Counts.{hits}
use Rattle.mesh_edges.proofs.EdgeCounts.{edge_count_past}
use Rattle.mesh_edges.proofs.FaceEdges.{key_parts}
use Rattle.mesh_edges.specs.HalfEdges.{start}
use Rattle.mesh_edges.specs.Things.{AreSoMany}
use Rattle.mesh_edges.proofs.Things.{images, same_things}
use Rattle.mesh_edges.specs.Sets.{AreTogether, IsForest}
use Rattle.mesh_edges.proofs.Tops.{first_own, not_first, together_on, together_self, together_turned}
use Rattle.mesh_edges.specs.Paths.{ArePath}
use Rattle.mesh_measures.specs.Corners.{AreNeighbors}
use Rattle.mesh_edges.specs.Paths.ArePath.{none, more}
use Rattle.mesh_measures.specs.Manifolds.{faces_at_edge, IsCornerAt, IsManifoldVertex, IsNonManifoldEdge, IsNonManifoldPair}
use Rattle.mesh_measures.specs.Marks.{IsFlagged, IsSuspect}
use Rattle.mesh_measures.specs.Merges.{AreCornerSets, part_at}
use Rattle.mesh_measures.specs.Sides.{AreSides, IsOddSide, key_at, side_key}
use Rattle.mesh_measures.specs.declared.merges.Part.TheVariants.{Low, High}
use Rattle.mesh_measures.specs.declared.sides.Side.{Side}
use Rattle.mesh_measures.proofs.Linked.{ends_rise, ends_small, key_by_ends}
use Rattle.mesh_measures.proofs.Runs.{first_hit, some_times}

pub path_start : (faces : List (List ℕ)) {a b : ℕ} → ArePath (AreNeighbors faces) a b → start faces a ≡ start faces b
path_start faces none = refl
path_start faces (more p l) = path_start faces p ∙ l.same

turned_edge : (faces : List (List ℕ)) (u v : ℕ) → IsNonManifoldEdge faces u v → IsNonManifoldEdge faces v u
turned_edge faces u v bad = (omega (arith, bad.0), λ q. bad.1 (omega (arith, q)))

module _ (faces : List (List ℕ)) (sides : List Side) (so : AreSides faces sides) (each : All (IsFace (2 ^ 32)) faces) where
  abbrev low : ℕ → ℕ
  low i = start faces (part_at Low sides i)

  abbrev high : ℕ → ℕ
  high i = start faces (part_at High sides i)

  -- the edge of an odd side
  odd_edge : (i : ℕ) → i < length sides → IsOddSide sides i → IsNonManifoldEdge faces (low i) (high i)
  odd_edge i l odd =
      let counts : hits side_key (key_of (low i) (high i)) sides ≡ faces_at_edge faces (low i) (high i) =
      so.counts (low i) (high i) (ends_rise faces sides so i l) (ends_small faces sides so i l) in
      let times : hits side_key (key_at sides i) sides ≡ faces_at_edge faces (low i) (high i) =
      ap (λ (k : ℕ). hits side_key k sides) (key_by_ends faces sides so i l) ∙ counts in
      (omega (arith, times, some_times sides so.sorted i l odd.first), λ q. odd.odd (times ∙ q))

  -- the first side of an edge with other than two faces
  bad_side : (u v : ℕ) → u < v → IsNonManifoldEdge faces u v
      → (i : ℕ) × (i < length sides) × IsOddSide sides i × (low i ≡ u) × (high i ≡ v)
  bad_side u v uv bad =
      elim (cases_lt v (2 ^ 32)) [
        | inl sv ↦
            let counts : hits side_key (key_of u v) sides ≡ faces_at_edge faces u v = so.counts u v uv sv in
            let h = first_hit sides (key_of u v) (omega (arith, bad.0, counts)) in
            let parts = key_parts (low h.0) (high h.0) u v (ends_small faces sides so h.0 h.1) sv (sym (key_by_ends faces sides so h.0 h.1) ∙ h.2) in (
              h.0,
              h.1,
              record {
                first = λ j l q. h.3 j l (q ∙ h.2);
                odd = λ q. bad.1 (sym counts ∙ (ap (λ (k : ℕ). hits side_key k sides) (sym h.2) ∙ q));
              },
              parts.0,
              parts.1,
            )
        | inr past ↦
            let there : (u < 2 ^ 32) × (v < 2 ^ 32) → ⊥ = λ h. omega (arith, h.1) in
            let back : (v < 2 ^ 32) × (u < 2 ^ 32) → ⊥ = λ h. omega (arith, h.0) in
            absurd (omega (
              arith,
              bad.0,
              edge_count_past u v (2 ^ 32) faces each there,
              edge_count_past v u (2 ^ 32) faces each back,
            ))
      ]

  abbrev Odd : ℕ → Type 0
  Odd i = (i < length sides) × IsOddSide sides i

  abbrev ends : ℕ → ℕ × ℕ
  ends i = (low i, high i)

  -- two odd sides have two edges
  different : (i j : ℕ) → Odd i → Odd j → ends i ≡ ends j → i ≡ j
  different i j p q e =
      let el : low i ≡ low j = ap (λ (z : ℕ × ℕ). z.0) e in
      let eh : high i ≡ high j = ap (λ (z : ℕ × ℕ). z.1) e in
      let same : key_at sides i ≡ key_at sides j =
      omega (arith, key_by_ends faces sides so i p.0, key_by_ends faces sides so j q.0, el, eh) in
      elim (cases_lt i j) [
        | inl l ↦ absurd (q.1.first i l same)
        | inr l ↦ elim (cases_lt j i) [ inl m ↦ absurd (p.1.first j m (sym same)) | inr m ↦ omega arith ]
      ]

  pub edges_counted : (n : ℕ) → AreSoMany (λ i. (i < length sides) × IsOddSide sides i) n → AreSoMany (IsNonManifoldPair faces) n
  edges_counted n many =
      same_things (λ (e : ℕ × ℕ). (i : ℕ) × Odd i × (ends i ≡ e)) (IsNonManifoldPair faces) n
      (λ e h. subst (IsNonManifoldPair faces) h.2 (ends_rise faces sides so h.0 h.1.0, odd_edge h.0 h.1.0 h.1.1))
      (λ e p.
      let b = bad_side e.0 e.1 p.0 p.1 in
      (b.0, (b.1, b.2), ap (λ (x : ℕ). (x, high b.0)) b.3 ∙ ap (λ (y : ℕ). (e.0, y)) b.4))
      (images Odd ends n different many)

  module _ (parents : List ℕ) (sets : AreCornerSets faces parents) (forest : IsForest parents) where
    -- a vertex that is marked
    suspect_bad : (v : ℕ) → IsSuspect faces sides parents v → IsManifoldVertex faces v → ⊥
    suspect_bad v (inl e) m = by e.at
      where
        by : (low e.i ≡ v) ⊎ (high e.i ≡ v) → ⊥
        by (inl at) =
            m.edges (high e.i) (λ q. omega (arith, ends_rise faces sides so e.i e.below, at, q))
            (subst (λ (z : ℕ). IsNonManifoldEdge faces z (high e.i)) at (odd_edge e.i e.below e.odd))
        by (inr at) =
            m.edges (low e.i) (λ q. omega (arith, ends_rise faces sides so e.i e.below, at, q))
            (subst (λ (z : ℕ). IsNonManifoldEdge faces z (low e.i)) at
            (turned_edge faces (low e.i) (high e.i) (odd_edge e.i e.below e.odd)))
    suspect_bad v (inr h) m =
        let before = h.before in
        let below = h.below in
        h.first h.d h.before
        (sets.kept h.c h.d (omega (arith, h.below, sets.count)) (m.umbrella h.c h.d (h.below, h.at) (omega arith, h.also)))

    -- one that is not
    module _ (v : ℕ) (clear : IsSuspect faces sides parents v → ⊥) where
      edges_good : (w : ℕ) → w ≢ v → IsNonManifoldEdge faces v w → ⊥
      edges_good w ne bad =
          elim (cases_lt v w) [
            | inl l ↦
                let b = bad_side v w l bad in
                clear (inl (record { i = b.0; below = b.1; odd = b.2; at = inl b.3 }))
            | inr l ↦
                let b = bad_side w v (omega arith) (turned_edge faces v w bad) in
                clear (inl (record { i = b.0; below = b.1; odd = b.2; at = inr b.4 }))
          ]

      within : (c : ℕ) → IsCornerAt faces v c → c < length parents
      within c p = omega (arith, p.0, sets.count)

      all_below : (m c d : ℕ) → c < m → IsCornerAt faces v c → IsCornerAt faces v d → d ≤ c → AreTogether parents c d
      all_below zero c d l pc pd dc = absurd (omega arith)
      all_below (suc m) c d l pc pd dc =
          elim (cases_eq c d) [
            | inl e ↦ subst (AreTogether parents c) e (together_self parents c forest (within c pc))
            | inr ne ↦ elim (cases_eq (get_or parents c 0) c) [
              | inl own ↦
                  absurd (clear (inr (record {
                    c = c;
                    d = d;
                    below = pc.0;
                    before = omega arith;
                    at = pc.1;
                    also = pd.1;
                    first = first_own parents c forest own;
                  })))
              | inr differ ↦
                  let j = not_first parents c forest (within c pc) differ in
                  let pj : IsCornerAt faces v j.0 = (omega (arith, j.1, pc.0), sym (path_start faces (sets.only c j.0 j.2)) ∙ pc.1) in
                  let less = j.1 in
                  together_on parents j.2
                  (elim (cases_lt j.0 d) [
                    | inl n ↦ together_turned parents (all_below m d j.0 (omega arith) pd pj (omega arith))
                    | inr n ↦ all_below m j.0 d (omega arith) pj pd n
                  ])
            ]
          ]

      clear_good : IsManifoldVertex faces v
      clear_good =
          record {
            edges = edges_good;
            umbrella = λ c d pc pd.
                sets.only c d
                (elim (cases_lt c d) [
                  | inl l ↦ together_turned parents (all_below (suc d) d c (omega arith) pd pc (omega arith))
                  | inr l ↦ all_below (suc c) c d (omega arith) pc pd l
                ]);
          }

    pub vertices_counted : (n points : ℕ) (flags : List Bool) → length flags ≡ points
        → IsFlagged (IsSuspect faces sides parents) flags
        → AreSoMany (λ v. (v < length flags) × (get_or flags v false ≡ true)) n
        → AreSoMany (λ v. (v < points) × (IsManifoldVertex faces v → ⊥)) n
    vertices_counted n points flags count marked many =
        same_things (λ v. (v < length flags) × (get_or flags v false ≡ true)) (λ v. (v < points) × (IsManifoldVertex faces v → ⊥)) n
        (λ v p. (omega (arith, p.0, count), suspect_bad v (marked.yes v p.0 p.1)))
        (λ v p. let l : v < length flags = omega (arith, p.0, count) in (l, is_set v l p.1 (get_or flags v false) refl)) many
      where
        is_set : (v : ℕ) → v < length flags → (IsManifoldVertex faces v → ⊥) → (b : Bool) → get_or flags v false ≡ b
            → get_or flags v false ≡ true
        is_set v l bad true e = e
        is_set v l bad false e =
            absurd (bad (clear_good v (λ s. false≢true (sym e ∙ marked.no v l s))))
