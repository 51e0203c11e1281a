-- `check MESH OUT`: whether a finished or simplified mesh is what it states, of the mesh that it was made of.
--
--   confirm_names words                the file names that the program holds for `check`, in the form that definitions
--                                      use
--   not_stated_line                    the line that `check` prints for a mesh without comments
--   other_mesh_line                    the line for a mesh that was made of another file
--   fault_line fault                   the line for a demand that the mesh does not meet
--   unbalanced_out_line from to there back   the line for an unbalanced edge of the finished mesh
--   nonmanifold_line edges vertices    the line for its numbers of non-manifold edges and vertices
--   unreached_line vertex is_far       the line for a corner for which no near face was found
--   far_text far                       what a line says of a point that is far
--   uncovered_line label u             the line for a face that was not shown to be near
--   confirmed_line points faces counts   the line for a mesh that meets all demands
--   reach_of smoothing                 how far vertices may be from those of the original mesh
--   demands_of o fine                  all that these options demand of a finished mesh with this scale
--   line_answer status line            the answer that has this status and this line, and writes no file
--   verdict_answer out verdict         the answer that follows from a verdict on the finished mesh
--   IsJudgedBy mesh made fine out verdict   the verdict follows from what was done
--   IsJudged mesh p out answer         the answer follows from the demands that these comments state
--   ConfirmAnswer digest mesh p out answer   the answer of `check`: the first reason for no that applies, or yes
--   check_answers                      the same for any bytes of the finished mesh
--   OutAnswer limit name digest mesh files answer   the answers of `check` to the file of the finished mesh
--   confirm_task names                 the command `check`
use Rattle.std.specs.Prelude.{ℕ, List, [], ◌∷◌, ◌++◌, codes, ◌≡◌, ◌≢◌, ◌⊎◌, ⊤, Bool, if◌then◌else◌, length, Option, None, Some}
use Rattle.host.specs.State.{Files}
use Rattle.mesh.specs.Meshes.{Surface}
use Rattle.mesh_crossings.specs.declared.counts.CrossingCounts.{CrossingCounts}
use Rattle.mesh_check.specs.Verdicts.{IsJudgment}
use Rattle.mesh_check.specs.Simplified.{IsSimplifyJudgment}
use Rattle.mesh_check.specs.declared.verdict.Demands.{Demands}
use Rattle.face_near.specs.declared.exact.Weights.{Weights}
use Rattle.mesh_check.specs.declared.verdict.Uncovered.{Uncovered}
use Rattle.mesh_check.specs.declared.verdict.Fault.{Fault}
use Rattle.mesh_check.specs.declared.verdict.Fault.TheVariants.{Unbalanced, NonManifold, FarVertex, UnreachedVertex, UncoveredOriginal, UncoveredFace}
use Rattle.mesh_check.specs.declared.verdict.Verdict.{Verdict}
use Rattle.mesh_check.specs.declared.verdict.Verdict.TheVariants.{Keeps, Breaks}
use Rattle.finish_options.specs.declared.options.FinishOptions.{FinishOptions}
use Rattle.finish_options.specs.declared.options.SmoothOptions.{SmoothOptions}
use Rattle.finish_options.specs.declared.options.Made.{Made}
use Rattle.finish_options.specs.declared.options.Made.TheVariants.{Finish, Simplify}
use Rattle.mesh_provenance.specs.declared.provenance.Provenance.{Provenance}
use Rattle.command_run.specs.Answers.{Answer, Task}
use Rattle.command_run.specs.Lines.{labelled, number_line, text_line}
use Rattle.command_run.specs.Words.{Names}
use Rattle.command_run.specs.declared.status.Status.{Status}
use Rattle.command_run.specs.declared.status.Status.TheVariants.{Done, No}
use Rattle.mesh_cmd.specs.Crossings.{crossings_text}
use Rattle.mesh_cmd.specs.Input.{Second, ToInput, pair_task}
use Rattle.mesh_cmd.specs.declared.commands.check.CheckWords.{CheckWords}
use Rattle.mesh_cmd.specs.declared.input.Role.TheVariants.{Finished}

-- the names that the program holds
abbrev pub confirm_names : CheckWords → Names
confirm_names words = record { input = words.mesh.now; output = words.finished.now }

-- the file has no comments
abbrev pub not_stated_line : List ℕ
not_stated_line = text_line (codes "no 1 not_stated")

-- its comments state another digest than that of the mesh
abbrev pub other_mesh_line : List ℕ
other_mesh_line = text_line (codes "no 2 other_mesh")

-- an edge, and how many faces have it in each direction
unfoldable pub unbalanced_out_line : (from to there back : ℕ) → List ℕ
unbalanced_out_line from to there back =
    labelled (codes "no 3 unbalanced from ") from
    ++ (labelled (codes " to ") to ++ (labelled (codes " there ") there ++ (labelled (codes " back ") back ++ (10 ∷ []))))

-- how many edges and vertices are not manifold
unfoldable pub nonmanifold_line : (edges vertices : ℕ) → List ℕ
nonmanifold_line edges vertices =
    labelled (codes "no 4 nonmanifold_edges ") edges ++ (labelled (codes " nonmanifold_vertices ") vertices ++ (10 ∷ []))

-- a corner for which no near face was found, and ` far` if each face is shown to be too far from it
unfoldable pub unreached_line : (vertex : ℕ) → (is_far : Bool) → List ℕ
unreached_line vertex is_far =
    labelled (codes "no 6 unreached_vertex ") vertex ++ ((if is_far then codes " far" else []) ++ (10 ∷ []))

-- ` far U V W`: how often the corners of a face count in a point that is shown to be too far, if there is one
unfoldable pub far_text : Option Weights → List ℕ
far_text None = []
far_text (Some w) = labelled (codes " far ") w.a ++ (labelled (codes " ") w.b ++ labelled (codes " ") w.c)

-- a face that was not shown to be near, and a point of it that is far
unfoldable pub uncovered_line : (label : List ℕ) → Uncovered → List ℕ
uncovered_line label u = labelled label u.face ++ (far_text u.far ++ (10 ∷ []))

-- the line of a demand that the mesh does not keep
abbrev pub fault_line : Fault → List ℕ
fault_line (Unbalanced e) = unbalanced_out_line e.from e.to e.there e.back
fault_line (NonManifold edges vertices) = nonmanifold_line edges vertices
fault_line (FarVertex v) = number_line (codes "no 5 far_vertex ") v
fault_line (UnreachedVertex u) = unreached_line u.vertex u.is_far
fault_line (UncoveredOriginal u) = uncovered_line (codes "no 7 uncovered_original ") u
fault_line (UncoveredFace u) = uncovered_line (codes "no 8 uncovered_face ") u

-- `yes points N faces M crossing_pairs C undecided_pairs U`, and ` first_pair I J` if any pair crosses
unfoldable pub confirmed_line : (points faces : ℕ) → CrossingCounts → List ℕ
confirmed_line points faces counts =
    labelled (codes "yes points ") points ++ (labelled (codes " faces ") faces ++ (crossings_text counts ++ (10 ∷ [])))

-- how far a vertex may be from the nearest of the mesh before, in units of that mesh
abbrev pub reach_of : Option SmoothOptions → ℕ
reach_of None = 0
reach_of (Some s) = s.within

-- what these options demand of a finished mesh with this scale
abbrev pub demands_of : FinishOptions → (fine : ℕ) → Demands
demands_of o fine = record { manifold = o.manifold; fine = fine; within = reach_of o.smoothing }

-- both files were read, and this line is printed
abbrev pub line_answer : Status → List ℕ → Answer
line_answer status line = record { status = status; reads = 2; writes = []; line = line }

-- a fault is printed, or how many pairs of faces cross
abbrev pub verdict_answer : Surface → Verdict → Answer
verdict_answer out (Keeps counts) = line_answer Done (confirmed_line (length out.points) (length out.faces) counts)
verdict_answer out (Breaks fault) = line_answer No (fault_line fault)

-- what was done says which demands decide
abbrev pub IsJudgedBy : Surface → Made → (fine : ℕ) → Surface → Verdict → Type 0
IsJudgedBy mesh (Finish o) fine out verdict = IsJudgment mesh.points (demands_of o fine) out.points out.faces verdict
IsJudgedBy mesh (Simplify o) fine out verdict =
    IsSimplifyJudgment o.surface fine o.within mesh.points mesh.faces out.points out.faces verdict

-- the demands of these comments decide
pub record IsJudged (mesh : Surface) (p : Provenance) (out : Surface) (answer : Answer) : Type 0 where
  pub verdict : Verdict
  pub holds : IsJudgedBy mesh p.made p.fine out verdict
  pub is : answer ≡ verdict_answer out verdict

-- The finished mesh has no comments, or was made of a file with another digest than this one of the mesh, or the demands decide.
abbrev pub ConfirmAnswer : (digest : List ℕ) → Surface → Option Provenance → Surface → Answer → Type 0
ConfirmAnswer digest mesh None out answer = answer ≡ line_answer No not_stated_line
ConfirmAnswer digest mesh (Some p) out answer =
    ((p.digest ≢ digest) × (answer ≡ line_answer No other_mesh_line)) ⊎ ((p.digest ≡ digest) × IsJudged mesh p out answer)

-- the answers to two meshes
abbrev pub check_answers : Second
check_answers digest mesh bytes p out = ConfirmAnswer digest mesh p out

-- the answers to the file of the finished mesh, after a mesh whose file has this digest
abbrev pub OutAnswer : (limit : ℕ) → (name digest : List ℕ) → Surface → Files → Answer → Type 0
OutAnswer limit name digest mesh = ToInput Finished limit name (check_answers digest mesh)

-- it reads the mesh, then the finished one if the first is valid, and says whether it is what it states
abbrev pub confirm_task : Names → Task
confirm_task names = pair_task ⊤ Finished names.input names.output check_answers
