-- `demo N SEED`: the result of `build` for a scan that is generated from a seed.
--
--   seed_of text                     the number in a seed, if it is valid
--   demo_line count seed line        the line that `demo` prints when it is done, which ends with that of `build`
--   generated_text count seed        the text of the generated scan
--   Demonstrates count seed answer   the result of `build` for a generated scan
--   demo_task count seed             the definition of `demo` with these arguments
use Rattle.std.specs.Prelude.{ℕ, List, Option, ◌∷◌, ◌++◌, codes, ◌≡◌, []}
use Rattle.gen_scan.specs.Generated.{generated}
use Rattle.ply_head.specs.Optional.{◌>>=◌}
use Rattle.scan.specs.PlainForm.{scan_text}
use Rattle.scan_rows.specs.Shown.{shown_by}
use Rattle.command_run.specs.Answers.{Answer, Task, file_limit}
use Rattle.command_run.specs.Lines.{labelled}
use Rattle.command_run.specs.declared.status.Status.TheVariants.{Done}
use Rattle.recon_cmd.specs.Answers.{ScanAnswer}
use Rattle.recon_cmd.specs.Build.{WritesSurface}
use Rattle.recon_cmd.specs.Options.{number_of_digits, within, default_options}
use Rattle.recon_cmd.specs.Words.{SurfaceNames}

-- the number with 1 to 20 digits, if it is below 2 ^ 64
abbrev pub seed_of : List ℕ → Option ℕ
seed_of text = number_of_digits 20 text >>= within 0 18446744073709551615

-- `demo N SEED `, and then a line
unfoldable pub demo_line : (count seed : ℕ) → (line : List ℕ) → List ℕ
demo_line count seed line = labelled (codes "demo ") count ++ (labelled (codes " ") seed ++ (32 ∷ line))

-- the text of the generated scan
abbrev pub generated_text : (count seed : ℕ) → List ℕ
generated_text count seed = scan_text (shown_by (generated count seed))

-- The result of `build` with these options for the text of the generated scan, if it is done. No file is written.
pub record Demonstrates (count seed : ℕ) (answer : Answer) : Type 0 where
  pub names : SurfaceNames
  pub built : Answer
  pub builds : ScanAnswer file_limit default_options (WritesSurface names default_options) (generated_text count seed) built
  pub done : built.status ≡ Done
  pub is : answer ≡ record { status = Done; reads = 0; writes = []; line = demo_line count seed built.line }

-- it reads nothing, and rejects nothing
abbrev pub demo_task : (count seed : ℕ) → Task
demo_task count seed = record { Denies = ⊥; Refuses = ⊥; most = 0; Answers = λ limit files. Demonstrates count seed }
