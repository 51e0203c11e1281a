-- Edges of a closed mesh in which no directed edge occurs twice, and meshes whose half edges are distinct.
use Rattle.std.proofs.Common.{ℕ, zero, suc, ◌≡◌, ◌≢◌, ◌+◌, ◌*◌, ◌<◌, ◌≤◌, ◌⊎◌, inl, inr, refl, ap, sym, ◌∙◌, subst, arith, List, length, get_or}
use Rattle.std.specs.List.{All}
use Rattle.std.proofs.lemmas.Bool.{cases_lt, cases_eq}
use Rattle.mesh.specs.Meshes.{IsFace}
use Rattle.mesh_edges.specs.Edges.{faces_with_edge, IsBalanced}
use Rattle.mesh_edges.specs.HalfEdges.{start, behind}
use Rattle.mesh_edges.proofs.Sums.{sum_below, sum_next, sum_none}
use Rattle.mesh_edges.proofs.Paired.{along, along_yes, along_some, runs, by_faces, count_all}
use Rattle.mesh_pieces.specs.Splits.{AreSingle, SplitsHaveTwoFaces}

pub two_faces : SplitsHaveTwoFaces
two_faces faces once closed u v some =
    (omega (arith, once u v, some), omega (arith, once v u, closed u v, once u v, some))

-- a sum in which at most one term is there, and that is 1
sum_once : (f : ℕ → ℕ) (n : ℕ) → ((h : ℕ) → h < n → f h ≤ 1)
    → ((g h : ℕ) → g < n → h < n → f g ≢ 0 → f h ≢ 0 → g ≡ h) → sum_below f n ≤ 1
sum_once f zero small one = omega (arith, sum_none f)
sum_once f (suc n) small one =
    elim (cases_eq (f n) 0) [
      | inl none ↦
          omega (
            arith,
            sum_next f n,
            sum_once f n (λ h l. small h (omega arith)) (λ g h l m. one g h (omega arith) (omega arith)),
          )
      | inr some ↦
          omega (arith, sum_next f n, small n (omega arith), zeros f n (λ h l. none_before some h l))
    ]
  where
    none_before : f n ≢ 0 → (h : ℕ) → h < n → f h ≡ 0
    none_before some h l =
        elim (cases_eq (f h) 0) [
          | inl e ↦ e
          | inr also ↦ absurd (let e : h ≡ n = one h n (omega arith) (omega arith) also some in omega arith)
        ]

    zeros : (f : ℕ → ℕ) (n : ℕ) → ((h : ℕ) → h < n → f h ≡ 0) → sum_below f n ≡ 0
    zeros f zero none = sum_none f
    zeros f (suc n) none = omega (arith, sum_next f n, zeros f n (λ h l. none h (omega arith)), none n (omega arith))

-- where no two half edges begin and end at the same vertices, no directed edge occurs twice
pub single_by_halves : (n : ℕ) (faces : List (List ℕ)) → All (IsFace n) faces
    → ((g h : ℕ) → g < 3 * length faces → h < 3 * length faces → start faces g ≡ start faces h
    → start faces (behind g) ≡ start faces (behind h) → g ≡ h)
    → AreSingle faces
single_by_halves n faces each one u v =
    omega (
      arith,
      count_all u v faces,
      by_faces faces n u v each,
      sum_once (runs faces u v) (3 * length faces) (λ h l. small h)
          (λ g h l m some also.
          let a = along_some u v (start faces g) (start faces (behind g)) some in
          let b = along_some u v (start faces h) (start faces (behind h)) also in
          one g h l m (sym a.0 ∙ b.0) (sym a.1 ∙ b.1)),
    )
  where
    small : (h : ℕ) → runs faces u v h ≤ 1
    small h = along_yes u v (start faces h) (start faces (behind h))
