-- What `ask` writes, where `check` says yes of a certificate. The mesh and the certificate are then a solution of the scan.
-- `ask` writes the labels of the same scan at the same weights, and labels agree with the inside cells of each solution.
use Rattle.std.proofs.Common.{◌≡◌, ◌<◌, ◌↔◌, ℕ, Bool, true, false, List, length, get_or, Option, Some, Ok}
use Rattle.std.proofs.Common.{refl, sym, ap, subst, ◌∙◌, arith}
use Rattle.std.specs.Option.{IsSomeAnd}
use Rattle.std.proofs.lemmas.List.{ext_get_or}
use Rattle.certificate.specs.Certificates.{Claim, IsWellFormed}
use Rattle.certificate.specs.Stamps.{StampView}
use Rattle.cert_text.specs.Texts.{cert_text}
use Rattle.flow_net.specs.declared.votes.Settings.{Settings}
use Rattle.geo_sign.proofs.Booleans.{same_bools}
use Rattle.geo_sign.specs.Point.{Point, origin}
use Rattle.host.specs.State.{Told}
use Rattle.recon_check.proofs.Uniqueness.{one_claim}
use Rattle.recon_check.specs.Answers.{IsSolved}
use Rattle.scan_rows.specs.Shown.{Shown}
use Rattle.solid_query.proofs.Unique.{labels_are_certified_law}
use Rattle.solid_query.specs.Labels.{AreLabels}
use Rattle.solid_query.specs.Laws.{HasPoint}
use Rattle.solid_query.specs.Queries.{points_in}
use Rattle.command_run.specs.Answers.{Answer, file_limit, invalid}
use Rattle.command_run.specs.Outcome.{all_written}
use Rattle.command_run.specs.declared.status.Status.TheVariants.{Done}
use Rattle.recon_cmd.specs.Answers.{or_line, read_as, scan_within}
use Rattle.recon_cmd.specs.Ask.{AskAnswer, WritesLabels, labels_text, points_within, query_refusal_line, too_long_points_line}
use Rattle.recon_cmd.specs.Ask.{QueryNames}
use Rattle.recon_cmd.specs.CheckLaws.{CheckEnds, IsSolvedAt, AreReadOff, CheckedIsAsked, ReadOffIsOne}
use Rattle.recon_cmd.specs.Options.{Options}
use Rattle.recon_cmd.specs.Commands.{EndsWith, Tells, ask}
use Rattle.recon_cmd.specs.Stamps.{stamp_for}
use Rattle.recon_cmd.proofs.CheckEnds.{check_is_exact}
use Rattle.recon_cmd.proofs.Completeness.{told_where}
use Rattle.recon_cmd.proofs.FileAnswers.{known_cases, or_line_ok, scan_found, up_to_ok}
use Rattle.recon_cmd.proofs.Headline.{file_here}
use Rattle.recon_cmd.proofs.OneAnswer.{same_settings}

-- ---- what a run of `ask` that is done leaves
record Answered (names : QueryNames) (options : Options) (bytes queries : List ℕ) (new : Told) : Type 0 where
  scan : Shown
  read : read_as options bytes ≡ Ok scan
  points : List Point
  points_read : points_in queries options.unit ≡ Ok points
  answer : Answer
  labelled : WritesLabels names.output options scan points answer
  file : new.files names.output ≡ Some (labels_text labelled.labels)

-- the file has the text of the answer
written : (output : List ℕ) (options : Options) (scan : Shown) (points : List Point) (answer : Answer) (told new : Told)
    → (labels : WritesLabels output options scan points answer) → new.files ≡ all_written answer.writes told.files
    → new.files output ≡ Some (labels_text labels.labels)
written output options scan points answer told new labels files = grind (arith, file_here)

answered : (names : QueryNames) (options : Options) (bytes queries : List ℕ) (told new : Told)
    → told.files names.input ≡ Some bytes → told.files names.points ≡ Some queries
    → EndsWith (Some (ask names options)) Done told new → Answered names options bytes queries new
answered names options bytes queries told new has there ends =
    known_cases 1 names.input (scan_within file_limit options) (λ _. AskAnswer file_limit names options told.files) told.files bytes
    ends.answer (Answered names options bytes queries new) has (λ line so is. not_done is)
    (λ scan so.
    known_cases 2 names.points (points_within file_limit options) (λ _. WritesLabels names.output options scan) told.files queries
    ends.answer (Answered names options bytes queries new) there (λ line so is. not_done is)
    (λ points found labelled. record {
      scan = scan;
      read = (scan_found file_limit options bytes scan so).1;
      points = points;
      points_read =
          or_line_ok query_refusal_line (points_in queries options.unit) points
          (up_to_ok file_limit too_long_points_line (λ b. or_line query_refusal_line (points_in b options.unit)) queries points
          found).1;
      answer = ends.answer;
      labelled = labelled;
      file = written names.output options scan points ends.answer told new labelled ends.carried_out.files;
    })) ends.answers
  where
    not_done : {reads : ℕ} {line : List ℕ} → ends.answer ≡ invalid reads line → Answered names options bytes queries new
    not_done is = absurd (cc (ends.status_is, ap (λ (a : Answer). a.status) is))

-- ---- the labels are those of the certificate
read_off : (options : Options) (bytes mesh queries output : List ℕ) (stamp : StampView) (claim : Claim) (scan : Shown)
    (points : List Point) (answer : Answer) → read_as options bytes ≡ Ok scan → points_in queries options.unit ≡ Ok points
    → IsWellFormed claim → IsSolvedAt options stamp scan mesh (cert_text claim)
    → (labelled : WritesLabels output options scan points answer) → AreReadOff options bytes claim queries labelled.labels
read_off options bytes mesh queries output stamp claim scan points answer read points_read formed solved labelled =
    let accepted = solved.accepted in
    let same : accepted.claim ≡ claim =
    one_claim (cert_text claim) accepted.claim claim accepted.well_formed formed accepted.text_is refl in
    let here : IsSolved scan solved.settings mesh accepted.claim = accepted.holds.1 in
    let labels : List Bool = labelled.labels in
    let settings : labelled.settings ≡ solved.settings =
    same_settings labelled.settings solved.settings (labelled.vote ∙ sym solved.vote) (labelled.smooth ∙ sym solved.smooth) in
    let are : AreLabels scan solved.settings points labels =
    subst (λ (s : Settings). AreLabels scan s points labels) settings labelled.labelled in
    record {
      scan = scan;
      read = read;
      points = points;
      points_read = points_read;
      count = are.count;
      each = λ k l.
          subst (λ (c : Claim). (get_or labels k false ≡ true) ↔ HasPoint scan c.inside (get_or points k origin)) same
          (labels_are_certified_law scan solved.settings here.surface accepted.claim points labels here.solution are k l);
    }

checked : (options : Options) (bytes mesh queries : List ℕ) (claim : Claim) (names : QueryNames) (new : Told)
    → IsWellFormed claim → CheckEnds options bytes mesh (cert_text claim) Done → Answered names options bytes queries new
    → (labels : List Bool) × AreReadOff options bytes claim queries labels × (new.files names.output ≡ Some (labels_text labels))
checked options bytes mesh queries claim names new formed (scan, readable, solved) done =
    let same : scan ≡ done.scan = cc (done.read, readable.read) in
    let here : IsSolvedAt options (stamp_for options bytes) done.scan mesh (cert_text claim) =
    subst (λ (s : Shown). IsSolvedAt options (stamp_for options bytes) s mesh (cert_text claim)) same solved in (
      done.labelled.labels,
      read_off options bytes mesh queries names.output (stamp_for options bytes) claim done.scan done.points done.answer done.read
          done.points_read formed here done.labelled,
      done.file,
    )

pub checked_is_asked : CheckedIsAsked
checked_is_asked =
    λ names output options bytes mesh claim before after asked queries start end formed checks runs there.
    let told = told_where (Tells (Some (ask asked options)) Done) runs.told start end runs.tells runs.outcome.tells in
    let labels =
    checked options bytes mesh queries claim asked told.0 formed
    (check_is_exact names output options bytes mesh (cert_text claim) Done before after checks)
    (answered asked options bytes queries runs.told told.0 runs.file there told.2) in (
      labels.0,
      labels.1,
      subst (λ (o : Option Told). IsSomeAnd o (λ new. new.files asked.output ≡ Some (labels_text labels.0))) (sym told.1) labels.2,
    )

-- ---- a certificate gives no two lists
pub read_off_is_one : ReadOffIsOne
read_off_is_one = λ options bytes claim queries labels others a b.
    let scan : b.scan ≡ a.scan = cc (a.read, b.read) in
    let points : b.points ≡ a.points = cc (a.points_read, b.points_read) in
    ext_get_or false labels others (a.count ∙ sym (b.count ∙ ap (λ (list : List Point). length list) points))
    (λ k l.
    let m : k < length a.points = omega (arith, l, a.count) in
    let n : k < length b.points = omega (arith, m, ap (λ (list : List Point). length list) points) in
    let there = a.each k m in
    let here : (get_or others k false ≡ true) ↔ HasPoint a.scan claim.inside (get_or a.points k origin) =
    subst (λ (list : List Point). (get_or others k false ≡ true) ↔ HasPoint a.scan claim.inside (get_or list k origin)) points
    (subst (λ (s : Shown). (get_or others k false ≡ true) ↔ HasPoint s claim.inside (get_or b.points k origin)) scan
    (b.each k n)) in
    same_bools (get_or labels k false) (get_or others k false) (λ e. here.1 (there.0 e)) (λ e. there.1 (here.0 e)))
