-- `ask` has one answer, and with which statuses it ends if no call fails.
--
-- Two answers are to the same scan and the same points, and a scan has one set of labels (labels_one). Each answer to a scan and
-- points that are accepted is done, and each to a file that is rejected rejects it.
use Rattle.std.proofs.Common.{◌≡◌, ◌⊎◌, inl, inr, ℕ, List, length, Option, Some, Ok, Err, sym, ap, subst, ◌∙◌}
use Rattle.flow_net.specs.declared.votes.Settings.{Settings}
use Rattle.geo_sign.specs.Point.{Point}
use Rattle.host.specs.State.{Files}
use Rattle.scan_rows.specs.Shown.{Shown}
use Rattle.solid_query.proofs.Unique.{labels_are_unique_law}
use Rattle.solid_query.specs.Labels.{AreLabels}
use Rattle.solid_query.specs.Queries.{points_in}
use Rattle.solution.specs.Scans.{points_of}
use Rattle.command_run.specs.Answers.{Answer, file_limit}
use Rattle.command_run.specs.declared.status.Status.TheVariants.{Done, Refused}
use Rattle.recon_cmd.specs.Answers.{ToScan, or_line, scan_within}
use Rattle.recon_cmd.specs.Ask.{AskAnswer, WritesLabels, ask_done, points_within, query_refusal_line, too_long_points_line, QueryNames}
use Rattle.recon_cmd.specs.Laws.{AskAnswerIsOne, AcceptedIsAsked, RefusedIsNotAsked, RefusesPoints}
use Rattle.recon_cmd.specs.Options.{Options}
use Rattle.recon_cmd.proofs.Completeness.{ends_so, scan_opened, scan_refused}
use Rattle.recon_cmd.proofs.FileAnswers.{WhyUnread, file_cases, file_one, file_rejected, opened, rejected, scan_accepted, up_to_short}
use Rattle.recon_cmd.proofs.OneAnswer.{same_settings}

-- ---- one answer
labels_one : (output : List ℕ) (options : Options) (scan : Shown) (points : List Point) (answer other : Answer)
    → WritesLabels output options scan points answer → WritesLabels output options scan points other → answer ≡ other
labels_one output options scan points answer other a b =
    let settings : b.settings ≡ a.settings =
    same_settings b.settings a.settings (b.vote ∙ sym a.vote) (b.smooth ∙ sym a.smooth) in
    let labelled : AreLabels scan a.settings points b.labels =
    subst (λ (s : Settings). AreLabels scan s points b.labels) settings b.labelled in
    let labels : a.labels ≡ b.labels =
    labels_are_unique_law scan a.settings points a.labels b.labels a.labelled labelled in
    a.is ∙ (ap (ask_done output (length (points_of scan))) labels ∙ sym b.is)

pub ask_answer_is_one : AskAnswerIsOne
ask_answer_is_one = λ names options files answer other.
    file_one 1 names.input (scan_within file_limit options) (λ _. AskAnswer file_limit names options files)
    (λ _. AskAnswer file_limit names options files) (λ x y. x ≡ y) files answer other (λ e. e)
    (λ bytes scan.
    file_one 2 names.points (points_within file_limit options) (λ _. WritesLabels names.output options scan)
    (λ _. WritesLabels names.output options scan) (λ x y. x ≡ y) files answer other (λ e. e)
    (λ queries points. labels_one names.output options scan points answer other))

-- ---- how it ends
-- points that are rejected
points_rejected : (options : Options) (queries : List ℕ) → RefusesPoints options queries
    → (line : Option (List ℕ)) × (points_within file_limit options queries ≡ Err line)
points_rejected options queries why = file_rejected too_long_points_line query_refusal_line (λ b. points_in b options.unit) queries why

-- an answer to a scan, and points that are rejected
points_refused : (names : QueryNames) (options : Options) (files : Files) (queries : List ℕ) (answer : Answer)
    → files names.points ≡ Some queries → RefusesPoints options queries
    → ToScan file_limit names.input options (λ _. AskAnswer file_limit names options files) files answer → answer.status ≡ Refused
points_refused names options files queries answer has why =
    file_cases 1 names.input (scan_within file_limit options) (λ _. AskAnswer file_limit names options files) files answer
    (answer.status ≡ Refused) (λ bytes line there so is. ap (λ (a : Answer). a.status) is)
    (λ bytes scan there so.
    let line = points_rejected options queries why in
    rejected 2 names.points (points_within file_limit options) (λ _. WritesLabels names.output options scan) files queries line.0
    answer has line.1)

pub accepted_is_asked : AcceptedIsAsked
accepted_is_asked = λ names options bytes queries scan points status before after runs within read has few queried.
    ends_so _ _ _ status before after runs.told runs.tells runs.no_failure runs.outcome Done
    (λ answer answers.
    let files = runs.told.files in
    let asked : AskAnswer file_limit names options files scan answer =
    scan_opened names.input options (λ _. AskAnswer file_limit names options files) files bytes scan answer runs.file
    (scan_accepted file_limit options bytes scan within read) answers in
    ap (λ (a : Answer). a.status)
    ((opened 2 names.points (points_within file_limit options) (λ _. WritesLabels names.output options scan) files queries (Ok points)
    answer has
    (up_to_short file_limit too_long_points_line (λ b. or_line query_refusal_line (points_in b options.unit)) queries few
    ∙ ap (or_line query_refusal_line) queried)).0 asked).is)

pub refused_is_not_asked : RefusedIsNotAsked
refused_is_not_asked = λ names options bytes status before after runs why.
    ends_so _ _ _ status before after runs.told runs.tells runs.no_failure runs.outcome Refused
    (λ answer. by names options runs.told.files bytes answer runs.file why)
  where
    by : (names : QueryNames) (options : Options) (files : Files) (bytes : List ℕ) (answer : Answer) → files names.input ≡ Some bytes
        → WhyUnread options bytes ⊎ ((queries : List ℕ) × (files names.points ≡ Some queries) × RefusesPoints options queries)
        → ToScan file_limit names.input options (λ _. AskAnswer file_limit names options files) files answer → answer.status ≡ Refused
    by names options files bytes answer has (inl why) =
        scan_refused names.input options (λ _. AskAnswer file_limit names options files) files bytes answer has why
    by names options files bytes answer has (inr (queries, there, why)) =
        points_refused names options files queries answer there why
