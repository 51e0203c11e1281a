-- `slice MESH H OUT`: the closed loops in which a horizontal plane cuts a mesh.
--
--   behind_minus text                the text after a minus sign, if there is one
--   height_of text                   the height in a text, if it is valid
--   slice_names words                the file names that the program holds for `slice`, in the form that definitions
--                                    use
--   unbalanced_line from to m n      the line for an edge that occurs m times, and its reverse n times
--   slice_line loops steps           the line that `slice` prints when it is done
--   slice_done output rings          the answer that writes loops
--   RefusesSlice, WritesSlice        the mesh has no slice, or its slice is written
--   SliceAnswer output height mesh answer
--                                    the answer of `slice` to a mesh: an unbalanced edge is rejected (`RefusesSlice`),
--                                    or the loops are written (`WritesSlice`)
--   slice_task names height          the definition of `slice` with these arguments
use Rattle.std.specs.Option.{option_map}
use Rattle.std.specs.Prelude.{ℕ, List, [], ◌∷◌, ◌==◌, if◌then◌else◌, ℤ, Option, ◌++◌, codes, ◌≡◌, length, sum_by, ◌⊎◌}
use Rattle.geo_sign.specs.declared.point.TheConstants.{BOX_LIMIT}
use Rattle.mesh.specs.Meshes.{Surface}
use Rattle.num_text.specs.WholeNumbers.{is_minus, signed}
use Rattle.ply_head.specs.Optional.{◌>>=◌}
use Rattle.mesh_edges.specs.Edges.{IsFirstUnbalanced, IsBalanced}
use Rattle.solid_slice.specs.Slices.{IsSlice}
use Rattle.solid_slice.specs.Texts.{slice_text}
use Rattle.solid_slice.specs.declared.step.Step.{Step}
use Rattle.command_run.specs.Answers.{Answer, Task, invalid, mesh_task}
use Rattle.command_run.specs.Lines.{labelled}
use Rattle.command_run.specs.Words.{Names}
use Rattle.command_run.specs.declared.status.Status.TheVariants.{Done}
use Rattle.recon_cmd.specs.Options.{number_of_digits, within}
use Rattle.recon_cmd.specs.declared.commands.slice.words.SliceWords.{SliceWords}

-- the text after a minus sign, if there is one
abbrev pub behind_minus : List ℕ → List ℕ
behind_minus [] = []
behind_minus (byte ∷ bytes) = if byte == 45 then bytes else byte ∷ bytes

-- the number with 1 to 7 digits after an optional minus sign, if it is no further from 0 than the walls of the box
abbrev pub height_of : List ℕ → Option ℤ
height_of text = option_map (signed (is_minus text)) (number_of_digits 7 (behind_minus text) >>= within 0 BOX_LIMIT)

-- the names of `slice` that the program holds
abbrev pub slice_names : SliceWords → Names
slice_names words = record { input = words.mesh.now; output = words.output.now }

-- an edge's two vertices, and the numbers of its occurrences there and back
unfoldable pub unbalanced_line : (from to there back : ℕ) → List ℕ
unbalanced_line from to there back =
    labelled (codes "refused 28 unbalanced from ") from
    ++ (labelled (codes " to ") to ++ (labelled (codes " there ") there ++ (labelled (codes " back ") back ++ (10 ∷ []))))

-- `loops L steps N`
unfoldable pub slice_line : (loops steps : ℕ) → List ℕ
slice_line loops steps = labelled (codes "loops ") loops ++ (labelled (codes " steps ") steps ++ (10 ∷ []))

-- some edge does not occur as often as its reverse, and the smallest such pair is printed with both numbers
pub record RefusesSlice (mesh : Surface) (answer : Answer) : Type 0 where
  pub from : ℕ
  pub to : ℕ
  pub there : ℕ
  pub back : ℕ
  pub unbalanced : IsFirstUnbalanced mesh.faces from to there back
  pub is : answer ≡ invalid 1 (unbalanced_line from to there back)

-- the answer that writes the loops of a slice, and prints their number and the total number of their steps
abbrev pub slice_done : (output : List ℕ) → (rings : List (List Step)) → Answer
slice_done output rings =
    record {
      status = Done;
      reads = 1;
      writes = (output, slice_text rings) ∷ [];
      line = slice_line (length rings) (sum_by (λ ring. length ring) rings);
    }

-- each edge occurs as often as its reverse, and the loops in which the plane above this height cuts the mesh are written
pub record WritesSlice (output : List ℕ) (height : ℤ) (mesh : Surface) (answer : Answer) : Type 0 where
  pub balanced : IsBalanced mesh.faces
  pub rings : List (List Step)
  pub sliced : IsSlice mesh.points mesh.faces height rings
  pub is : answer ≡ slice_done output rings

-- the mesh has no slice, or it is written
abbrev pub SliceAnswer : (output : List ℕ) → (height : ℤ) → Surface → Answer → Type 0
SliceAnswer output height mesh answer = RefusesSlice mesh answer ⊎ WritesSlice output height mesh answer

-- it reads the mesh, and writes its loops or rejects it
abbrev pub slice_task : Names → (height : ℤ) → Task
slice_task names height = mesh_task ⊥ names.input (SliceAnswer names.output height)
