-- A finished mesh keeps all that `check` demands of it, so no demand is the first that fails.
use Rattle.std.proofs.Common.{ℕ, ◌≡◌, ◌∙◌, refl, sym, ap, arith, inl, inr, List, [], ◌∷◌, length, Some, All}
use Rattle.std.proofs.lemmas.Bool.{cases_lt}
use Rattle.geo_sign.specs.Point.{Point}
use Rattle.mesh.specs.Meshes.{Surface}
use Rattle.mesh_edges.specs.Things.{AreSoMany}
use Rattle.mesh_edges.specs.Edges.{IsBalanced, IsFirstUnbalanced, faces_with_edge}
use Rattle.mesh_pieces.specs.Splits.{HasTwoFaces}
use Rattle.mesh_measures.specs.Manifolds.{IsNonManifoldPair}
use Rattle.mesh_check.specs.Verdicts.{KeepsDemands, IsFirstFault, IsJudgment}
use Rattle.mesh_check.specs.declared.verdict.Demands.{Demands}
use Rattle.mesh_check.specs.declared.verdict.Fault.{Fault}
use Rattle.mesh_check.specs.declared.verdict.Fault.TheVariants.{Unbalanced, NonManifold, FarVertex, UnreachedVertex, UncoveredOriginal, UncoveredFace}
use Rattle.mesh_check.specs.declared.verdict.Verdict.{Verdict}
use Rattle.mesh_check.specs.declared.verdict.Verdict.TheVariants.{Keeps, Breaks}
use Rattle.finish_options.specs.declared.options.FinishOptions.{FinishOptions}
use Rattle.finish_options.specs.declared.options.Made.TheVariants as making
use Rattle.mesh_finish.specs.Steps.{AreFinished}
use Rattle.command_run.specs.Answers.{Answer}
use Rattle.command_run.specs.declared.status.Status.TheVariants.{Done}
use Rattle.mesh_cmd.specs.Check.{ConfirmAnswer, demands_of, verdict_answer}
use Rattle.mesh_laws.proofs.Homes.{made_near}

-- ---- the demands
-- no edge has other than two faces
two_faces : (faces : List (List ℕ)) → HasTwoFaces faces → (e : ℕ × ℕ) → ¬ IsNonManifoldPair faces e
two_faces faces two (u, v) (rising, (some, other)) =
    elim (cases_lt 0 (faces_with_edge u v faces)) [
      | inl here ↦ let both = two u v here in other (omega (arith, both.0, both.1))
      | inr none ↦ let both = two v u (omega arith) in omega (arith, both.1)
    ]

keeps_demands : (options : FinishOptions) (points : List Point) (faces : List (List ℕ)) (new : List Point)
    (new_faces : List (List ℕ)) (fine : ℕ) → AreFinished options points faces new new_faces fine
    → KeepsDemands points (demands_of options fine) new new_faces
keeps_demands options points faces new new_faces fine is =
    record {
      closed = is.made.closed;
      manifold =
          λ asked. record {
            edges = two_faces new_faces (is.made.two asked);
            vertices = λ v (within, bad). is.umbrellas asked v within bad;
          };
      near = made_near options points faces new new_faces fine is.made;
    }

-- ---- no fault
pub nothing : {A : Type 0} (P : A → Type 0) (n : ℕ) → AreSoMany P n → ((a : A) → ¬ P a) → n ≡ 0
nothing {A} P n so none = by so.things so.number so.each
  where
    by : (things : List A) → length things ≡ n → All P things → n ≡ 0
    by [] number each = sym number
    by (a ∷ things) number each = absurd (none a (each 0 a (omega arith)))

pub never_unbalanced : (faces : List (List ℕ)) (from to there back : ℕ) → IsBalanced faces
    → IsFirstUnbalanced faces from to there back → ⊥
never_unbalanced faces from to there back closed first =
    first.differ (first.there ∙ (closed from to ∙ sym first.back))

pub never : (homes : List Point) (d : Demands) (points : List Point) (faces : List (List ℕ)) (fault : Fault)
    → KeepsDemands homes d points faces → IsFirstFault homes d points faces fault → ⊥
never homes d points faces (Unbalanced e) keeps first = never_unbalanced faces e.from e.to e.there e.back keeps.closed first
never homes d points faces (NonManifold edges vertices) keeps (closed, has) =
    let manifold = keeps.manifold has.asked_so in
    omega (
      arith,
      has.some,
      nothing _ edges has.edge_count manifold.edges,
      nothing _ vertices has.vertex_count manifold.vertices,
    )
never homes d points faces (FarVertex v) keeps first = first.far.far (keeps.near v first.far.inside)
never homes d points faces (UnreachedVertex v) keeps first = absurd first
never homes d points faces (UncoveredOriginal i) keeps first = absurd first
never homes d points faces (UncoveredFace i) keeps first = absurd first

-- ---- the answer of `check`
verdict_done : (homes : List Point) (d : Demands) (out : Surface) (verdict : Verdict) (answer : Answer)
    → KeepsDemands homes d out.points out.faces → IsJudgment homes d out.points out.faces verdict
    → answer ≡ verdict_answer out verdict → answer.status ≡ Done
verdict_done homes d out (Keeps counts) answer keeps holds is = ap (λ (a : Answer). a.status) is
verdict_done homes d out (Breaks fault) answer keeps holds is = absurd (never homes d out.points out.faces fault keeps holds)

pub confirmed : (digest : List ℕ) (options : FinishOptions) (fine : ℕ) (mesh out : Surface) (answer : Answer)
    → AreFinished options mesh.points mesh.faces out.points out.faces fine
    → ConfirmAnswer digest mesh (Some (record { made = making.Finish options; fine = fine; digest = digest })) out answer
    → answer.status ≡ Done
confirmed digest options fine mesh out answer so (inl (other, is)) = absurd (other refl)
confirmed digest options fine mesh out answer so (inr (same, judged)) =
    verdict_done mesh.points (demands_of options fine) out judged.verdict answer
    (keeps_demands options mesh.points mesh.faces out.points out.faces fine so) judged.holds judged.is
