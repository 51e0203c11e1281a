-- `ask IN POINTS OUT`: classifies points as inside or outside the best surface of a scan.
--
--   QueryNames                       the names of `ask`: the scan, the points and the output
--   ask_names names                  the file names that the program holds for `ask`, in the form that definitions use
--   too_long_points_line             the line for a file of points that is too long
--   query_refusal_line why           the line for the error of points
--   ask_line points asked inside     the line that `ask` prints when it is done
--   label_line label                 a label, as a line
--   labels_text labels               the text of labels
--   points_within limit options ..   the points in the bytes of a file, or the line that rejects these bytes
--   ask_done output points labels    the answer that writes labels
--   WritesLabels output options ..   the labels of the points are written
--   AskAnswer limit names options files scan answer
--                                    the answer of `ask` to a scan: the file of the points is too long or no list of
--                                    points (`points_within`, `query_refusal_line why`), or the labels of the points
--                                    are written (`WritesLabels`)
--   ask_task names options           the definition of `ask` with these arguments
--   IsAskReply limit names ..        the reply may end a run of `ask`, and is one of its answers to a scan
use Rattle.std.specs.List.{flat_map}
use Rattle.std.specs.Prelude.{ℕ, List, codes, Option, Some, None, [], ◌∷◌, ◌++◌, Bool, if◌then◌else◌, length, decimal, ◌≡◌, ⊤}
use Rattle.std.specs.Prelude.{count_by, Result}
use Rattle.flow_net.specs.declared.votes.Settings.{Settings}
use Rattle.geo_sign.specs.Point.{Point}
use Rattle.host.specs.State.{Files, State}
use Rattle.scan_rows.specs.Shown.{Shown}
use Rattle.solid_query.specs.Labels.{AreLabels}
use Rattle.solid_query.specs.Queries.{points_in}
use Rattle.solid_query.specs.declared.refusal.QueryRefusal.{QueryRefusal}
use Rattle.solution.specs.Scans.{points_of}
use Rattle.command_run.specs.Answers.{Answer, Task}
use Rattle.command_run.specs.Lines.{labelled, number_line}
use Rattle.command_run.specs.Steps.{IsReplyOf}
use Rattle.command_run.specs.declared.reply.Reply.{Reply}
use Rattle.command_run.specs.declared.status.Status.TheVariants.{Done}
use Rattle.recon_cmd.specs.Answers.{ToFile, ToScan, or_line, up_to}
use Rattle.recon_cmd.specs.Options.{Options}
use Rattle.recon_cmd.specs.declared.commands.ask.AskNames.{AskNames}
use Rattle.solid_query.specs.declared.refusal.QueryRefusal.TheVariants as queries

-- the names of `ask IN POINTS OUT`
pub record QueryNames : Type 0 where
  pub input : List ℕ
  pub points : List ℕ
  pub output : List ℕ

-- the names of `ask` that the program holds
abbrev pub ask_names : AskNames → QueryNames
ask_names names = record { input = names.input.now; points = names.points.now; output = names.output.now }

unfoldable pub too_long_points_line : List ℕ
too_long_points_line = codes "refused 19 too_long points\n"

-- the line for the error of points; out of memory has none
abbrev pub query_refusal_line : QueryRefusal → Option (List ℕ)
query_refusal_line (queries.BadToken token) = Some (number_line (codes "refused 23 bad_query token ") token)
query_refusal_line (queries.LongNumber token) = Some (number_line (codes "refused 24 long_query token ") token)
query_refusal_line (queries.OutOfRange token) = Some (number_line (codes "refused 25 query_range token ") token)
query_refusal_line (queries.Uneven tokens) = Some (number_line (codes "refused 26 query_cut tokens ") tokens)
query_refusal_line (queries.TooMany tokens) = Some (number_line (codes "refused 27 too_many_queries tokens ") tokens)
query_refusal_line queries.NoMemory = None

-- `points P asked N inside I`
unfoldable pub ask_line : (points asked inside : ℕ) → List ℕ
ask_line points asked inside =
    labelled (codes "points ") points ++ labelled (codes " asked ") asked ++ labelled (codes " inside ") inside ++ (10 ∷ [])

-- `inside` or `outside`
unfoldable pub label_line : Bool → List ℕ
label_line label = if label then codes "inside\n" else codes "outside\n"

-- `answers N`, and then the N labels
unfoldable pub labels_text : List Bool → List ℕ
labels_text labels = codes "answers " ++ (decimal (length labels) ++ (10 ∷ flat_map label_line labels))

-- the points in the bytes of a file, at the scale of these options, or the line that rejects these bytes
abbrev pub points_within : (limit : ℕ) → Options → List ℕ → Result (List Point) (Option (List ℕ))
points_within limit options = up_to limit too_long_points_line (λ bytes. or_line query_refusal_line (points_in bytes options.unit))

-- the answer that writes labels, and prints the numbers of points of the scan, of labels, and of those that are inside
abbrev pub ask_done : (output : List ℕ) → (points : ℕ) → (labels : List Bool) → Answer
ask_done output points labels =
    record {
      status = Done;
      reads = 2;
      writes = (output, labels_text labels) ∷ [];
      line = ask_line points (length labels) (count_by (λ label. label) labels);
    }

-- the labels of these points in the best surface of the scan at the weights of these options are written, in their order
pub record WritesLabels (output : List ℕ) (options : Options) (scan : Shown) (points : List Point) (answer : Answer) : Type 0 where
  pub settings : Settings
  pub vote : settings.vote ≡ options.vote
  pub smooth : settings.smooth ≡ options.smooth
  pub labels : List Bool
  pub labelled : AreLabels scan settings points labels
  pub is : answer ≡ ask_done output (length (points_of scan)) labels

-- the file of the points is rejected, or the labels of its points are written
abbrev pub AskAnswer : (limit : ℕ) → QueryNames → Options → Files → Shown → Answer → Type 0
AskAnswer limit names options files scan =
    ToFile 2 names.points (points_within limit options) (λ _. WritesLabels names.output options scan) files

-- it reads the scan, then the points if the scan is not rejected, and writes their labels or rejects one of the two
abbrev pub ask_task : QueryNames → Options → Task
ask_task names options =
    record {
      Denies = ⊥;
      Refuses = ⊤;
      most = 2;
      Answers = λ limit files. ToScan limit names.input options (λ _. AskAnswer limit names options files) files;
    }

-- the reply may end a run of such a command, and is one of its answers to this scan
abbrev pub IsAskReply : (limit : ℕ) → QueryNames → Options → Shown → Reply → State → Type 0
IsAskReply limit names options scan = IsReplyOf (ask_task names options) (λ files. AskAnswer limit names options files scan)
