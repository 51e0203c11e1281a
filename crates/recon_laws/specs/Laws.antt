-- Theorems on runs of `check` that are done, and the printed form of a scan with its header as literal text.
--
--   seen_lines wide               the header lines of the columns that say by which scanners a point was seen
--   scan_header wide v s          the header of a scan file with these numbers of points and scanners
--   printed_rows rows             the text of rows, in the plain form or in the wide form, as they need
--   IsPrintedFrom options scan bytes   the bytes are the printed form of the scan, and these options read it at scale 1 and
--                                 without a fixed scanner
--   EndsDone names output options bytes mesh cert before after
--                                 a run of `check`, or of `upgrade` if there is an output, is done, and the three files
--                                 have these bytes
--   DoneHadNoFailure              after a run of any command that is done, the count of failed calls is as before
--   DoneCheckIsBest               after a run of `check` that is done, the first file is a scan, and the mesh is the text
--                                 of its best surface
--   DoneCheckOfPrintedIsBest      if the first file is the printed form of a scan, the mesh is the text of the best
--                                 surface of that scan
--   TextIsPrinted                 the printed form of a scan is the text that `push_scan` writes
use Rattle.std.specs.List.{flat_map}
use Rattle.std.specs.Prelude.{ℕ, ◌≡◌, Bool, true, false, List, ◌++◌, length, codes, decimal, Option, Some, None}
use Rattle.host.specs.State.{State, Told}
use Rattle.scan.specs.PlainForm.{is_wide, rows_showing, scan_text, scanner_line, vertex_line}
use Rattle.scan_rows.specs.ScanRows.{ScanRows}
use Rattle.scan_rows.specs.Shown.{Shown, IsShown}
use Rattle.command_run.specs.declared.status.Status.TheVariants.{Done}
use Rattle.recon_cmd.specs.CheckLaws.{IsBestMesh, IsBestOf}
use Rattle.recon_cmd.specs.Commands.{Asked, Outcome, check}
use Rattle.recon_cmd.specs.Options.{Options}
use Rattle.recon_cmd.specs.Words.{SurfaceNames}

-- The header lines of the columns after the coordinates of a point: the index of the one scanner that saw it, or, in the wide form,
-- a weight and a list of scanners.
abbrev pub seen_lines : Bool → List ℕ
seen_lines false = codes "property int scanner\n"
seen_lines true = codes "property uchar weight\nproperty list uint int scanner\n"

-- The header of a scan file, in the plain form or in the wide form, with the numbers of its points and scanners.
abbrev pub scan_header : Bool → (points scanners : ℕ) → List ℕ
scan_header wide points scanners =
    codes "ply\nformat ascii 1.0\nelement vertex " ++ (decimal points
    ++ (codes "\nproperty int x\nproperty int y\nproperty int z\n" ++ (seen_lines wide
    ++ (codes "element scanner " ++ (decimal scanners
    ++ codes "\nproperty int x\nproperty int y\nproperty int z\nend_header\n")))))

-- The text of a scan file: the header, a line for each point, a line for each scanner, and nothing else. It has the wide form if its
-- rows need that.
abbrev pub printed_rows : ScanRows → List ℕ
printed_rows rows =
    scan_header (is_wide rows.vertices) (length rows.vertices) (length rows.scanners)
    ++ (flat_map (vertex_line (is_wide rows.vertices)) rows.vertices ++ flat_map scanner_line rows.scanners)

-- The scan is valid, its file is exactly the printed form of this scan, the scale is 1, and no option `scanner=` is given.
pub record IsPrintedFrom (options : Options) (scan : Shown) (bytes : List ℕ) : Type 0 where
  pub shown : IsShown scan
  pub in_units : options.unit ≡ 1
  pub none_fixed : options.fixed ≡ None
  pub text_is : bytes ≡ printed_rows (rows_showing scan)

-- A run of `check`, or of `upgrade` if there is an output file, over a host that exposes its files is done. The three files have these
-- bytes.
pub record EndsDone (names : SurfaceNames) (output : Option (List ℕ)) (options : Options) (bytes mesh cert : List ℕ)
    (before after : State) : Type 0 where
  pub told : Told
  pub tells : before.told ≡ Some told
  pub input : told.files names.input ≡ Some bytes
  pub mesh_file : told.files names.mesh ≡ Some mesh
  pub cert_file : told.files names.cert ≡ Some cert
  pub outcome : Outcome (Some (check names output options)) Done before after

-- the count of failed calls is as before
abbrev pub DoneHadNoFailure : Type 0
DoneHadNoFailure =
    (asked : Option Asked) (before after : State) → Outcome asked Done before after → after.faults ≡ before.faults

-- for any first file: it is a scan, and the mesh is its best surface
abbrev pub DoneCheckIsBest : Type 0
DoneCheckIsBest =
    (names : SurfaceNames) (output : Option (List ℕ)) (options : Options) (bytes mesh cert : List ℕ) (before after : State)
    → EndsDone names output options bytes mesh cert before after → IsBestOf options bytes mesh

-- the first file is the printed form of a scan: the mesh is the best surface of that scan
abbrev pub DoneCheckOfPrintedIsBest : Type 0
DoneCheckOfPrintedIsBest =
    (names : SurfaceNames) (output : Option (List ℕ)) (options : Options) (scan : Shown) (bytes mesh cert : List ℕ)
    (before after : State) → IsPrintedFrom options scan bytes
    → EndsDone names output options bytes mesh cert before after → IsBestMesh options scan mesh

-- the printed form is the text of the definitions of `scan`
abbrev pub TextIsPrinted : Type 0
TextIsPrinted = (scan : Shown) → printed_rows (rows_showing scan) ≡ scan_text scan
