-- `cells IN OUT`: the cells of a scan.
--
--   cells_keys                       the options that determine the points of a scan
--   cells_names names                the file names that the program holds for `cells`, in the form that definitions
--                                    use
--   cells_line points cells          the line that `cells` prints when it is done
--   row_line numbers                 numbers separated by single spaces, as a line
--   cells_text rows                  the text of cells
--   WritesCells output scan answer   the answer that writes the cells of a scan
--   cells_task names options         the definition of `cells` with these arguments
use Rattle.std.specs.List.{flat_map}
use Rattle.std.specs.Prelude.{List, [], ◌∷◌, ℕ, ◌++◌, codes, decimal, length, ◌≡◌, ⊤}
use Rattle.geo_sign.specs.Cells.{IsCellList}
use Rattle.geo_sign.specs.Vertices.{boxed_vertices}
use Rattle.scan_rows.specs.Shown.{Shown}
use Rattle.solution.specs.Scans.{points_of}
use Rattle.command_run.specs.Answers.{Answer, Task}
use Rattle.command_run.specs.Words.{Names}
use Rattle.command_run.specs.declared.status.Status.TheVariants.{Done}
use Rattle.recon_cmd.specs.Answers.{ToScan}
use Rattle.recon_cmd.specs.declared.commands.cells.CellsNames.{CellsNames}
use Rattle.recon_cmd.specs.declared.options.keys.Key.{Key}
use Rattle.recon_cmd.specs.declared.options.keys.Key.TheVariants.{Unit as unit_key, Scanner as scanner_key}
use Rattle.recon_cmd.specs.Options.{Options}

-- the options that determine the points of a scan
abbrev pub cells_keys : List Key
cells_keys = unit_key ∷ scanner_key ∷ []

-- the names of `cells` that the program holds
abbrev pub cells_names : CellsNames → Names
cells_names names = record { input = names.input.now; output = names.output.now }

-- `points P cells T`
unfoldable pub cells_line : (points cells : ℕ) → List ℕ
cells_line points cells = codes "points " ++ (decimal points ++ (codes " cells " ++ (decimal cells ++ (10 ∷ []))))

-- the numbers separated by single spaces, ended by LF
unfoldable pub row_line : List ℕ → List ℕ
row_line [] = 10 ∷ []
row_line (number ∷ []) = decimal number ++ (10 ∷ [])
row_line (number ∷ next ∷ rest) = decimal number ++ (32 ∷ row_line (next ∷ rest))

-- `cells N`, and then the N rows
unfoldable pub cells_text : List (List ℕ) → List ℕ
cells_text rows = codes "cells " ++ (decimal (length rows) ++ (10 ∷ flat_map row_line rows))

-- the cells of the scan are written
pub record WritesCells (output : List ℕ) (scan : Shown) (answer : Answer) : Type 0 where
  pub rows : List (List ℕ)
  pub cells : IsCellList (boxed_vertices (points_of scan)) rows
  pub is : answer ≡ record {
    status = Done;
    reads = 1;
    writes = (output, cells_text rows) ∷ [];
    line = cells_line (length (points_of scan)) (length rows);
  }

-- it reads the scan, and writes its cells or rejects it
abbrev pub cells_task : Names → Options → Task
cells_task names options =
    record {
      Denies = ⊥;
      Refuses = ⊤;
      most = 1;
      Answers = λ limit. ToScan limit names.input options (λ _. WritesCells names.output);
    }
