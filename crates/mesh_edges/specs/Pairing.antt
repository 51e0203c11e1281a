-- Why a mesh has no twins.
--
--   Explains faces error   what an error states about the faces: the smallest edge that is not balanced. Out of memory
--                          states nothing
use Rattle.std.specs.Prelude.{ℕ, List, ⊤}
use Rattle.mesh_edges.specs.Edges.{IsFirstUnbalanced}
use Rattle.mesh_edges.specs.declared.pairing.PairingError.{PairingError}
use Rattle.mesh_edges.specs.declared.pairing.PairingError.TheVariants.{NotClosed, NoMemory}

-- the first edge that is not balanced; out of memory says nothing
abbrev pub Explains : List (List ℕ) → PairingError → Type 0
Explains faces (NotClosed e) = IsFirstUnbalanced faces e.from e.to e.there e.back
Explains faces NoMemory = ⊤
