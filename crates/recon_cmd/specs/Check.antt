-- `check IN MESH CERT`: verifies that a mesh is the best surface of a scan, and a certificate of its optimality. And `upgrade
-- IN MESH CERT OUT`: if so, writes the certificate with the fingerprint of this run.
--
-- The line for yes states what was found; each reason for no has a number and a name of its own, and states the position and
-- the compared values. Rows are counted from 0 in their list.
--
--   check_names names, output_of names
--                                      of the names of `check` and `upgrade`: those of the scan, the mesh and the
--                                      certificate; that of the output, if there is one
--   too_long_cert_line                 the line for a certificate's file that is too long
--   upgraded_line cost                 the line of `upgrade` for yes
--   which_word which                   the name of a number that a certificate states
--   line_with_numbers text numbers     a line of a text and numbers
--   amounts_line text a b              a line of a text and two amounts after their labels
--   digests_line text a b              a line of a text, and two digests, the stated one and this run's
--   scanner_text p                     a fixed scanner, or `none`
--   scanners_line text a b             a line of a text, and two fixed scanners, the stated one and this run's
--   reason_line reason                 the line of `check` and `upgrade` for no, by the reason
--   yes_line inside faces cost         the line of `check` for yes
--   verdict_line verdict               the line of a verdict (`yes_line` or `reason_line`)
--   verdict_status verdict             the status of a verdict, done or no
--   restamped stamp claim              a certificate with this fingerprint
--   upgraded_answer output stamp claim cost
--                                      the answer of `upgrade` after a verdict of yes: the certificate is written with
--                                      the fingerprint of this run, and its cost is printed
--   IsConcluded output stamp cert verdict answer
--                                      what follows from a verdict: it is printed, or for `upgrade` the certificate is
--                                      written
--   HasVerdict output options ..       the verdict on a mesh and a certificate, and its effect
--   whole_within limit line ..         all bytes of a file, or this line if they are too many
--   CertAnswer limit ..                the answer to the bytes of a certificate
--   MeshAnswer limit ..                the answer to the bytes of a mesh, followed by those of a certificate
--   CheckAnswer limit names output options files bytes scan answer
--                                      the answer of `check` or `upgrade` to a scan, which follows from the mesh, the
--                                      certificate and the fingerprint of this run (`HasVerdict`)
--   check_task names output options, task_for asked
--                                      the definition of `upgrade` if there is an output, else of `check`; that
--                                      definition for a request that the program holds
--   HasVerdictFor asked held ..        the verdict, for a request and a scan in memory with its fingerprint
--   CertAnswerFor, MeshAnswerFor       the answers to the bytes of a certificate, and to those of a mesh, for a request
use Rattle.std.specs.Fmt.{signed_decimal}
use Rattle.std.specs.Option.{option_map}
use Rattle.std.specs.Prelude.{ℕ, List, Option, Result, Ok, codes, [], ◌∷◌, ◌++◌, Some, None, ◌≡◌, ⊤}
use Rattle.certificate.specs.Certificates.{Claim, stamp_view}
use Rattle.certificate.specs.Stamps.{StampView}
use Rattle.cert_text.specs.Texts.{cert_text}
use Rattle.flow_net.specs.declared.votes.Settings.{Settings}
use Rattle.geo_sign.specs.Point.{Point}
use Rattle.hex.specs.Hex.{encode_lower}
use Rattle.host.specs.State.{Files}
use Rattle.recon_check.specs.Answers.{HasCertificate, IsAnswer}
use Rattle.recon_check.specs.declared.answer.Answer.{Answer as Verdict}
use Rattle.recon_check.specs.declared.answer.Reason.{Reason}
use Rattle.recon_check.specs.declared.answer.Reason.TheVariants.{CertLine, CertOrder, CertCut, OtherScan, OtherUnit, OtherFixed}
use Rattle.recon_check.specs.declared.answer.Reason.TheVariants.{OtherCounts, NoSuchCell, NoSuchFacet, NoSuchSink, FixedInside}
use Rattle.recon_check.specs.declared.answer.Reason.TheVariants.{OverCapacity, OverSink, Unbalanced, NotEqual, NotLeast, WrongCost}
use Rattle.recon_check.specs.declared.answer.Reason.TheVariants.{MeshDiffers}
use Rattle.recon_check.specs.declared.answer.Which.{Which}
use Rattle.recon_check.specs.declared.answer.Which.TheVariants.{Points, Scanners, Sights, Vote, Smooth}
use Rattle.scan.specs.PlainForm.{spaced}
use Rattle.scan_rows.specs.Shown.{Shown}
use Rattle.scan_rows.specs.Views.{shown_of}
use Rattle.command_run.specs.Answers.{Answer, Task}
use Rattle.command_run.specs.Lines.{labelled, too_long_mesh_line, text_line, number_line}
use Rattle.command_run.specs.declared.status.Status.{Status}
use Rattle.command_run.specs.declared.status.Status.TheVariants.{Done, No}
use Rattle.recon_cmd.specs.Answers.{ToFile, ToScan, up_to}
use Rattle.recon_cmd.specs.OptionViews.{options_view}
use Rattle.recon_cmd.specs.Options.{Options}
use Rattle.recon_cmd.specs.Stamps.{stamp_for}
use Rattle.recon_cmd.specs.Words.{SurfaceNames}
use Rattle.recon_cmd.specs.declared.commands.check.CheckAsked.{CheckAsked}
use Rattle.recon_cmd.specs.declared.commands.check.CheckNames.{CheckNames}
use Rattle.recon_cmd.specs.declared.commands.check.StampedScan.{StampedScan}
use Rattle.recon_check.specs.declared.answer.Answer.TheVariants as verdicts

-- the first three names of `check` and `upgrade` that the program holds
abbrev pub check_names : CheckNames → SurfaceNames
check_names names = record { input = names.input.now; mesh = names.mesh.now; cert = names.cert.now }

-- the output file, if there is one
abbrev pub output_of : CheckNames → Option (List ℕ)
output_of names = option_map (λ name. name.now) names.output

unfoldable pub too_long_cert_line : List ℕ
too_long_cert_line = codes "refused 19 too_long cert\n"

-- `upgraded cost C`
unfoldable pub upgraded_line : (cost : ℕ) → List ℕ
upgraded_line cost = labelled (codes "upgraded cost ") cost ++ (10 ∷ [])

-- the name of a number that a certificate states
abbrev pub which_word : Which → List ℕ
which_word Points = codes "points"
which_word Scanners = codes "scanners"
which_word Sights = codes "sights"
which_word Vote = codes "vote"
which_word Smooth = codes "smooth"

-- a text, and numbers after it
unfoldable pub line_with_numbers : (text numbers : List ℕ) → List ℕ
line_with_numbers text numbers = text ++ (spaced numbers ++ (10 ∷ []))

-- a text, and two amounts after it, each after its label
unfoldable pub amounts_line : (text first second : List ℕ) → (a b : ℕ) → List ℕ
amounts_line text first second a b = text ++ (labelled first a ++ (labelled second b ++ (10 ∷ [])))

-- a text, and two digests in lower-case hexadecimal digits
unfoldable pub digests_line : (text stated here : List ℕ) → List ℕ
digests_line text stated here =
    text ++ (codes " stated " ++ (encode_lower stated ++ (codes " here " ++ (encode_lower here ++ (10 ∷ [])))))

-- the position from which all points were seen, or `none`
abbrev pub scanner_text : Option Point → List ℕ
scanner_text None = codes "none"
scanner_text (Some p) = signed_decimal p.x ++ (32 ∷ (signed_decimal p.y ++ (32 ∷ signed_decimal p.z)))

-- a text, and two fixed scanners
unfoldable pub scanners_line : (text : List ℕ) → (stated here : Option Point) → List ℕ
scanners_line text stated here =
    text ++ (codes " stated " ++ (scanner_text stated ++ (codes " here " ++ (scanner_text here ++ (10 ∷ [])))))

-- the line of a reason
abbrev pub reason_line : Reason → List ℕ
reason_line (CertLine line) = number_line (codes "no 1 cert_line line ") line
reason_line (CertOrder line) = number_line (codes "no 2 cert_order line ") line
reason_line CertCut = text_line (codes "no 3 cert_cut")
reason_line (OtherScan stated here) = digests_line (codes "no 16 other_scan") stated here
reason_line (OtherUnit stated here) = amounts_line (codes "no 17 other_unit") (codes " stated ") (codes " here ") stated here
reason_line (OtherFixed stated here) = scanners_line (codes "no 18 other_fixed") stated here
reason_line (OtherCounts which stated here) =
    amounts_line (codes "no 4 other_counts " ++ which_word which) (codes " stated ") (codes " here ") stated here
reason_line (NoSuchCell row) = number_line (codes "no 5 no_such_cell row ") row
reason_line (NoSuchFacet row) = number_line (codes "no 6 no_such_facet row ") row
reason_line (NoSuchSink row) = number_line (codes "no 7 no_such_sink row ") row
reason_line (FixedInside cell) = line_with_numbers (codes "no 8 fixed_inside") cell
reason_line (OverCapacity facet flow cap) =
    amounts_line (codes "no 9 over_capacity" ++ spaced facet) (codes " flow ") (codes " cap ") flow cap
reason_line (OverSink cell flow cap) =
    amounts_line (codes "no 10 over_sink" ++ spaced cell) (codes " flow ") (codes " cap ") flow cap
reason_line (Unbalanced cell amount_in amount_out) =
    amounts_line (codes "no 11 unbalanced" ++ spaced cell) (codes " in ") (codes " out ") amount_in amount_out
reason_line (NotEqual value cost) = amounts_line (codes "no 12 not_equal") (codes " value ") (codes " cost ") value cost
reason_line (NotLeast cell) = line_with_numbers (codes "no 13 not_least") cell
reason_line (WrongCost stated cost) = amounts_line (codes "no 14 wrong_cost") (codes " stated ") (codes " cost ") stated cost
reason_line (MeshDiffers place) = number_line (codes "no 15 mesh_differs at ") place

-- `yes inside I faces F cost C`
unfoldable pub yes_line : (inside faces cost : ℕ) → List ℕ
yes_line inside faces cost =
    labelled (codes "yes inside ") inside ++ (labelled (codes " faces ") faces ++ (labelled (codes " cost ") cost ++ (10 ∷ [])))

-- the line of a verdict
abbrev pub verdict_line : Verdict → List ℕ
verdict_line (verdicts.Yes inside faces cost) = yes_line inside faces cost
verdict_line (verdicts.No reason) = reason_line reason

-- the status of a verdict
abbrev pub verdict_status : Verdict → Status
verdict_status (verdicts.Yes inside faces cost) = Done
verdict_status (verdicts.No reason) = No

-- the certificate with this fingerprint, in place of its own
abbrev pub restamped : StampView → Claim → Claim
restamped stamp claim = record claim { stamp = Some stamp }

-- the certificate with this fingerprint is written, and the cost is printed
abbrev pub upgraded_answer : (output : List ℕ) → StampView → Claim → (cost : ℕ) → Answer
upgraded_answer output stamp claim cost = record {
  status = Done;
  reads = 3;
  writes = (output, cert_text (restamped stamp claim)) ∷ [];
  line = upgraded_line cost;
}

-- The verdict is printed. If it is yes and there is an output file, the certificate is written there with this fingerprint, and
-- its cost is printed.
abbrev pub IsConcluded : (output : Option (List ℕ)) → StampView → (cert : List ℕ) → Verdict → Answer → Type 0
IsConcluded (Some output) stamp cert (verdicts.Yes inside faces cost) answer =
    HasCertificate cert (λ claim. answer ≡ upgraded_answer output stamp claim cost)
IsConcluded output stamp cert verdict answer =
    answer ≡ record { status = verdict_status verdict; reads = 3; writes = []; line = verdict_line verdict }

-- the mesh and the certificate are the best surface of the scan at the weights of these options and a certificate of its
-- optimality, without a fingerprint or with this one, or the first reason why they are not is printed
pub record HasVerdict (output : Option (List ℕ)) (options : Options) (stamp : StampView) (scan : Shown) (mesh cert : List ℕ)
    (answer : Answer) : Type 0 where
  pub settings : Settings
  pub vote : settings.vote ≡ options.vote
  pub smooth : settings.smooth ≡ options.smooth
  pub verdict : Verdict
  pub holds : IsAnswer scan settings stamp mesh cert verdict
  pub is : IsConcluded output stamp cert verdict answer

-- all bytes of a file, or this line if they are too many
abbrev pub whole_within : (limit : ℕ) → (line : List ℕ) → List ℕ → Result (List ℕ) (Option (List ℕ))
whole_within limit line = up_to limit line (λ bytes. Ok bytes)

-- the file of the certificate is too long, or it decides
abbrev pub CertAnswer : (limit : ℕ) → SurfaceNames → (Decides : (cert : List ℕ) → Answer → Type 0) → Files → Answer → Type 0
CertAnswer limit names Decides = ToFile 3 names.cert (whole_within limit too_long_cert_line) (λ cert _. Decides cert)

-- the file of the mesh is too long, or it and the certificate decide
abbrev pub MeshAnswer : (limit : ℕ) → SurfaceNames → (Decide : (mesh cert : List ℕ) → Answer → Type 0) → Files → Answer → Type 0
MeshAnswer limit names Decide files =
    ToFile 2 names.mesh (whole_within limit too_long_mesh_line) (λ mesh _. CertAnswer limit names (Decide mesh) files) files

-- the mesh and the certificate determine the verdict
abbrev pub CheckAnswer : (limit : ℕ) → SurfaceNames → (output : Option (List ℕ)) → Options → Files → (bytes : List ℕ) → Shown
    → Answer
    → Type 0
CheckAnswer limit names output options files bytes scan =
    MeshAnswer limit names (HasVerdict output options (stamp_for options bytes) scan) files

-- It reads the scan, then the mesh if the scan is not rejected, then the certificate if the mesh is not too long. It answers
-- yes, or no, or rejects an unreadable file.
abbrev pub check_task : SurfaceNames → (output : Option (List ℕ)) → Options → Task
check_task names output options =
    record {
      Denies = ⊤;
      Refuses = ⊤;
      most = 3;
      Answers = λ limit files. ToScan limit names.input options (CheckAnswer limit names output options files) files;
    }

-- the requested command
abbrev pub task_for : CheckAsked → Task
task_for asked = check_task (check_names asked.names.now) (output_of asked.names.now) (options_view asked.options.now)

-- the verdict on a mesh and a certificate, and its effect, for a request and a scan in memory with its fingerprint
abbrev pub HasVerdictFor : CheckAsked → StampedScan → (mesh cert : List ℕ) → Answer → Type 0
HasVerdictFor asked held =
    HasVerdict (output_of asked.names.now) (options_view asked.options.now) (stamp_view held.stamp) (shown_of held.scan)

-- the requested file of the certificate is too long, or it decides on this mesh
abbrev pub CertAnswerFor : CheckAsked → StampedScan → (mesh : List ℕ) → Files → Answer → Type 0
CertAnswerFor asked held mesh = CertAnswer asked.limit (check_names asked.names.now) (HasVerdictFor asked held mesh)

-- the requested file of the mesh is too long, or it and the certificate decide
abbrev pub MeshAnswerFor : CheckAsked → StampedScan → Files → Answer → Type 0
MeshAnswerFor asked held = MeshAnswer asked.limit (check_names asked.names.now) (HasVerdictFor asked held)
