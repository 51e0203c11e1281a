-- When `check` says yes, exactly: the certificates that it accepts for a scan in the printed form.
--
--   spaced_line numbers           a line of numbers
--   list_lines word rows          a list of a certificate: the number of its rows, and a line for each
--   amount_rows keys amounts      the rows of the keys whose amount is not 0, each with its amount
--   first_lines stamped bytes     the lines before the numbers, with a fingerprint of the scan's file or without one
--   number_lines scan settings least
--                                 the six lines of numbers
--   IsCertificateOf bytes scan settings complex inside cert
--                                 the text is that of a certificate of these labels
--   AreBest options scan bytes mesh cert
--                                 the mesh is the best surface, and the certificate is one of its labels
--   AreWithinLimit bytes mesh cert
--                                 no text is longer than a file may be
--   EndsDecided names output options bytes mesh cert status before after
--                                 a run of `check`, or of `upgrade` if there is an output, over a host that exposes its
--                                 files, in which the three files have these bytes, no call failed and memory sufficed
--   IsDecided options scan bytes mesh cert status
--                                 the status says exactly what the three texts are
--   PrintedCheckIsExact           if the first file is the printed form of a scan, the status of that run says exactly what the three texts are
use Rattle.std.specs.List.{flat_map}
use Rattle.std.specs.Prelude.{ℕ, ◌≡◌, ◌≢◌, ◌≤◌, ◌^◌, ◌==◌, ◌↔◌, not, Bool, true, false, List, [], ◌∷◌, ◌++◌, length, map, filter}
use Rattle.std.specs.Prelude.{codes, decimal, Option, Some}
use Rattle.hex.specs.Hex.{encode_lower}
use Rattle.sha2.specs.Sha256.{sha256}
use Rattle.flow_net.specs.Networks.{IsValidFlow, value, cost}
use Rattle.flow_net.specs.declared.votes.Settings.{Settings}
use Rattle.host.specs.State.{State, Told}
use Rattle.line_text.specs.Numbers.{counted, line_feed}
use Rattle.scan.specs.PlainForm.{spaced}
use Rattle.scan_rows.specs.Shown.{Shown}
use Rattle.solution.specs.Scans.{points_of, scene_of_scan}
use Rattle.visibility.specs.Complexes.{Complex}
use Rattle.visibility.specs.Cuts.{network_over}
use Rattle.command_run.specs.declared.status.Status.{Status}
use Rattle.command_run.specs.declared.status.Status.TheVariants.{Done, No, Refused, Failed, NoMemory}
use Rattle.recon_cmd.specs.CheckLaws.{IsBestMesh}
use Rattle.recon_cmd.specs.Commands.{Outcome, check}
use Rattle.recon_cmd.specs.Options.{Options}
use Rattle.recon_cmd.specs.Words.{SurfaceNames}
use Rattle.recon_laws.specs.Laws.{IsPrintedFrom}

-- A line of numbers.
abbrev pub spaced_line : List ℕ → List ℕ
spaced_line [] = line_feed ∷ []
spaced_line (n ∷ rest) = decimal n ++ (spaced rest ++ (line_feed ∷ []))

-- A word and the number of rows, then a line for each.
abbrev pub list_lines : (word : List ℕ) → (rows : List (List ℕ)) → List ℕ
list_lines word rows = counted word (length rows) ++ flat_map spaced_line rows

-- Each cell or facet whose amount is not 0, and then the amount.
abbrev pub amount_rows : List (List ℕ) → (List ℕ → ℕ) → List (List ℕ)
amount_rows keys amounts = map (λ key. key ++ (amounts key ∷ [])) (filter (λ key. not (amounts key == 0)) keys)

-- Version 1, or version 2 with the digest of the scan's file.
abbrev pub first_lines : (stamped : Bool) → (bytes : List ℕ) → List ℕ
first_lines false bytes = codes "recon certificate 1\n"
first_lines true bytes = codes "recon certificate 2\nscan " ++ (encode_lower (sha256 bytes) ++ codes "\nunit 1\nscanner none\n")

-- The counts, the two weights and the cost.
abbrev pub number_lines : Shown → Settings → (least : ℕ) → List ℕ
number_lines scan settings least =
    counted (codes "points ") (length (points_of scan))
    ++ (counted (codes "scanners ") (length scan.scanners)
    ++ (counted (codes "sights ") (length scan.seen)
    ++ (counted (codes "vote ") settings.vote
    ++ (counted (codes "smooth ") settings.smooth ++ counted (codes "cost ") least))))

-- The text is that of a certificate of this labelling, with any valid flow whose value is the cost.
pub record IsCertificateOf (bytes : List ℕ) (scan : Shown) (settings : Settings) (complex : Complex) (inside : List ℕ → Bool)
    (cert : List ℕ) : Type 0 where
  pub stamped : Bool
  pub on_facet : List ℕ → ℕ
  pub on_cell : List ℕ → ℕ
  pub flow : IsValidFlow (network_over (scene_of_scan scan settings) complex) on_facet on_cell
  pub least : ℕ
  pub cost_is : least ≡ cost (network_over (scene_of_scan scan settings) complex) inside
  pub value_is : least ≡ value (network_over (scene_of_scan scan settings) complex) on_cell
  pub text_is : cert
      ≡ first_lines stamped bytes
      ++ (number_lines scan settings least
      ++ (list_lines (codes "inside ") (filter inside complex.cells)
      ++ (list_lines (codes "flow ") (amount_rows complex.facets on_facet)
      ++ (list_lines (codes "sink ") (amount_rows complex.cells on_cell) ++ codes "end\n"))))

-- The mesh is the best surface, and the certificate is one of its labelling.
pub record AreBest (options : Options) (scan : Shown) (bytes mesh cert : List ℕ) : Type 0 where
  pub best : IsBestMesh options scan mesh
  pub certificate : IsCertificateOf bytes scan best.settings best.complex best.inside cert

-- No file is longer than 4,294,967,296 bytes.
pub record AreWithinLimit (bytes mesh cert : List ℕ) : Type 0 where
  pub bytes_within : length bytes ≤ 2 ^ 32
  pub mesh_within : length mesh ≤ 2 ^ 32
  pub cert_within : length cert ≤ 2 ^ 32

-- A run of `check`, or of `upgrade` if there is an output file, over a host that exposes its files. The three files have these
-- bytes. The run ended with this status, no call of the host failed, and memory sufficed.
pub record EndsDecided (names : SurfaceNames) (output : Option (List ℕ)) (options : Options) (bytes mesh cert : List ℕ)
    (status : Status) (before after : State) : Type 0 where
  pub told : Told
  pub tells : before.told ≡ Some told
  pub input : told.files names.input ≡ Some bytes
  pub mesh_file : told.files names.mesh ≡ Some mesh
  pub cert_file : told.files names.cert ≡ Some cert
  pub outcome : Outcome (Some (check names output options)) status before after
  pub no_failure : status ≢ Failed
  pub memory : status ≢ NoMemory

-- The status says exactly what the three texts are.
pub record IsDecided (options : Options) (scan : Shown) (bytes mesh cert : List ℕ) (status : Status) : Type 0 where
  pub done : (status ≡ Done) ↔ (AreWithinLimit bytes mesh cert × AreBest options scan bytes mesh cert)
  pub no : (status ≡ No) ↔ (AreWithinLimit bytes mesh cert × (¬ AreBest options scan bytes mesh cert))
  pub refused : (status ≡ Refused) ↔ (¬ AreWithinLimit bytes mesh cert)

-- the first file is the printed form of a scan: the status says exactly what the three texts are
abbrev pub PrintedCheckIsExact : Type 0
PrintedCheckIsExact =
    (names : SurfaceNames) (output : Option (List ℕ)) (options : Options) (scan : Shown) (bytes mesh cert : List ℕ)
    (status : Status) (before after : State) → IsPrintedFrom options scan bytes
    → EndsDecided names output options bytes mesh cert status before after → IsDecided options scan bytes mesh cert status
