-- What the steps of `join` return, for its proofs.
--
--   IsUnderstoodTile limit tile bytes reading   the result of parsing the bytes of a tile's mesh
--   IsTileReading limit tile name reading told  the same for the bytes of the named file
--   OnlyReadsTimes most before after   only reads happened, and at most this number of files was opened
--   HasEnded status              the statuses of an answer of `join`
use Rattle.std.specs.Prelude.{ℕ, List, ◌≡◌, ◌≤◌, ◌+◌, ◌⊎◌, Some, Result, Ok, Err, length}
use Rattle.host.specs.State.{State, Told}
use Rattle.host.specs.Whole.{apart_from_left}
use Rattle.mesh.specs.declared.mesh.Mesh.{Mesh}
use Rattle.mesh_ply.specs.Texts.{mesh_text, IsPrinted}
use Rattle.command_run.specs.Replies.{line_bytes}
use Rattle.command_run.specs.declared.reply.Line.{Line}
use Rattle.command_run.specs.declared.status.Status.{Status}
use Rattle.command_run.specs.declared.status.Status.TheVariants.{Done, Refused}
use Rattle.join_cmd.specs.Join.{IsRejected}

-- the mesh whose text the bytes are, or the line that rejects them
abbrev pub IsUnderstoodTile : (limit tile : ℕ) → (bytes : List ℕ) → Result Mesh Line → Type 0
IsUnderstoodTile limit tile bytes (Ok mesh) =
    (length bytes ≤ limit) × IsPrinted mesh.points.items mesh.faces.items
    × (bytes ≡ mesh_text mesh.points.items mesh.faces.items)
IsUnderstoodTile limit tile bytes (Err line) = IsRejected limit tile bytes (line_bytes line)

-- the same for the bytes of the named file
abbrev pub IsTileReading : (limit tile : ℕ) → (name : List ℕ) → Result Mesh Line → Told → Type 0
IsTileReading limit tile name reading told =
    (bytes : List ℕ) × (told.files name ≡ Some bytes) × IsUnderstoodTile limit tile bytes reading

-- only reads happened, and at most this number of files was opened
pub record OnlyReadsTimes (most : ℕ) (before after : State) : Type 0 where
  pub told : apart_from_left after.told ≡ apart_from_left before.told
  pub writing : after.writing ≡ before.writing
  pub opens : after.opens ≤ before.opens + most

-- the statuses of an answer of `join`
abbrev pub HasEnded : Status → Type 0
HasEnded status = (status ≡ Done) ⊎ (status ≡ Refused)
