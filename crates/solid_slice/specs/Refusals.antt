-- Why a mesh has no slice.
use Rattle.std.specs.Prelude.{ℕ, List}
use Rattle.mesh_edges.specs.Edges.{IsFirstUnbalanced}
use Rattle.solid_slice.specs.declared.refusal.SliceRefusal.{SliceRefusal}
use Rattle.solid_slice.specs.declared.refusal.SliceRefusal.TheVariants.{Unbalanced, NoMemory}

-- the error names the smallest unbalanced pair; out of memory states nothing
abbrev pub IsRefusedSlice : List (List ℕ) → SliceRefusal → Type 0
IsRefusedSlice faces (Unbalanced from to there back) = IsFirstUnbalanced faces from to there back
IsRefusedSlice faces NoMemory = Unit {0}
