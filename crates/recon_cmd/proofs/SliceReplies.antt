-- The answer of `slice` to a mesh.
use Rattle.std.proofs.Common.{◌≡◌, ◌⊎◌, inl, inr, ℕ, ℤ, List, ap, subst, ◌∙◌}
use Rattle.mesh.specs.Meshes.{Surface}
use Rattle.solid_slice.specs.Refusals.{IsRefusedSlice}
use Rattle.solid_slice.specs.declared.refusal.SliceRefusal.{SliceRefusal}
use Rattle.solid_slice.specs.declared.refusal.SliceRefusal.TheVariants.{Unbalanced}
use Rattle.command_run.specs.Answers.{Answer, invalid}
use Rattle.command_run.specs.declared.status.Status.TheVariants.{Done, Refused}
use Rattle.recon_cmd.specs.Slice.{SliceAnswer, unbalanced_line}

-- a mesh in which some edge occurs another number of times than its reverse
pub refuses_slice : (output : List ℕ) (height : ℤ) (mesh : Surface) (why : SliceRefusal) (from to there back : ℕ)
    (line : List ℕ) (answer : Answer)
    → why ≡ Unbalanced from to there back → IsRefusedSlice mesh.faces why → line ≡ unbalanced_line from to there back
    → answer ≡ invalid 1 line → SliceAnswer output height mesh answer
refuses_slice output height mesh why from to there back line answer why_is refused line_is is =
    inl (record {
      from = from;
      to = to;
      there = there;
      back = back;
      unbalanced = subst (λ (r : SliceRefusal). IsRefusedSlice mesh.faces r) why_is refused;
      is = is ∙ ap (invalid 1) line_is;
    })

-- it is done or rejects the mesh
pub slice_status : (output : List ℕ) (height : ℤ) (mesh : Surface) (answer : Answer) → SliceAnswer output height mesh answer
    → (answer.status ≡ Done) ⊎ (answer.status ≡ Refused)
slice_status output height mesh answer (inl refuses) = inr (ap (λ (a : Answer). a.status) refuses.is)
slice_status output height mesh answer (inr written) = inl (ap (λ (a : Answer). a.status) written.is)
