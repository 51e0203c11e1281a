-- The parts of lines, and the lines for invalid arguments and for meshes that are rejected.
--
--   bad_arguments_line       the line for invalid arguments
--   too_long_mesh_line       the line for a file of a mesh that is too long
--   labelled label number    a label, and a number after it
--   text_line, number_line   lines of a text alone, and of a text and a number
--   mesh_error_line why      the line for a mesh's error
use Rattle.std.specs.Prelude.{ℕ, List, codes, Option, Some, None, ◌++◌, [], ◌∷◌, decimal}
use Rattle.mesh_ply.specs.declared.refusal.MeshRefusal.{MeshRefusal}
use Rattle.mesh_ply.specs.declared.refusal.MeshRefusal.TheVariants as meshes

-- the line for invalid arguments
unfoldable pub bad_arguments_line : List ℕ
bad_arguments_line = codes "refused words\n"

-- the line for a file of a mesh that is longer than the limit
unfoldable pub too_long_mesh_line : List ℕ
too_long_mesh_line = codes "refused 19 too_long mesh\n"

-- a label, and a number after it
abbrev pub labelled : List ℕ → ℕ → List ℕ
labelled label number = label ++ decimal number

-- a text alone
unfoldable pub text_line : List ℕ → List ℕ
text_line text = text ++ (10 ∷ [])

-- a text, and a number after it
unfoldable pub number_line : List ℕ → ℕ → List ℕ
number_line text number = labelled text number ++ (10 ∷ [])

-- the line for a mesh's error; out of memory has none
abbrev pub mesh_error_line : MeshRefusal → Option (List ℕ)
mesh_error_line (meshes.BadLine line) = Some (number_line (codes "refused 29 mesh_line line ") line)
mesh_error_line meshes.MeshCut = Some (text_line (codes "refused 30 mesh_cut"))
mesh_error_line meshes.NoMemory = None
