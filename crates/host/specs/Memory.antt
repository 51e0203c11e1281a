-- The view of a host in memory. It exposes everything.
--
--   told_of host, names_of host, pieces_of host
--                                 of a host in memory: its files and output (`Told`), its names, its pieces
--   state_of host                 the state of a host in memory
--   turn_of host                  which piece is next
--   next_turn host                which one is next after one more call
--   piece_of host                 how many bytes the next read, append or say of a host in memory moves at most
--   byte_room host                how many bytes each file and the output can hold
--   room_in_file, room_in_said    the capacity that is left in the file that is open for writing, and in the output
--   failing_of host               the calls that will fail, each by its kind and number
--   calls_of host call            how many calls of a kind there were
--   IsListed host call            the next such call fails
--   CountsCall old new call       one more call of this kind is counted. The calls that will fail, the names, the size
--                                 of pieces and the room for bytes are as before
--   AreNumbers failing            the numbers are from 1 to 2^64 - 2, so the count of calls can reach them
use Rattle.host.specs.Counts.{next, call_index}
use Rattle.host.specs.declared.plan.HostCall.{HostCall}
use Rattle.std.specs.Prelude.{All, ◌<◌, ◌^◌, ◌≡◌, ◌+◌, ◌-◌, ◌%◌, length, Contains, slice_index, slice_set, ℕ, List, Some}
use Rattle.host.specs.State.{State, Told, file_bytes}
use Rattle.host.specs.Files.{names_of_files}
use Rattle.host.specs.Activity.{told_by, is_reading, is_writing}
use Rattle.host.specs.declared.memory.MemHost.{MemHost}

-- what a host in memory exposes
abbrev pub told_of : MemHost → Told
told_of host = told_by host.files.items host.activity host.said.bytes.items

-- the state of a host in memory
abbrev pub state_of : MemHost → State
state_of host = record {
  told = Some (told_of host);
  faults = host.plan.faults;
  opens = host.opens;
  reading = is_reading host.activity;
  writing = is_writing host.activity;
}

-- the names that it was constructed with, of files that exist and that do not exist yet
abbrev pub names_of : MemHost → List (List ℕ)
names_of host = names_of_files host.files.items

-- the maximal numbers of bytes that the reads, appends and prints move, one after another
abbrev pub pieces_of : MemHost → List ℕ
pieces_of host = host.pieces.items

-- the turn among the pieces
abbrev pub turn_of : MemHost → ℕ
turn_of host = host.turn

-- the turn after one more such call
abbrev pub next_turn : MemHost → ℕ
next_turn host = (turn_of host + 1) % length (pieces_of host)

-- the maximal number of bytes that the next such call moves
abbrev pub piece_of : MemHost → ℕ
piece_of host = slice_index (pieces_of host) (turn_of host)

-- the capacity of each file, and of the output, in bytes
abbrev pub byte_room : MemHost → ℕ
byte_room host = host.said.room

-- the capacity that is left in the file that is open for writing
abbrev pub room_in_file : MemHost → ℕ
room_in_file host = byte_room host - length (file_bytes (told_of host).files (told_of host).target)

-- the capacity that is left in the output
abbrev pub room_in_said : MemHost → ℕ
room_in_said host = byte_room host - length (told_of host).said

-- the calls that fail: for example, (Append, 2) is the second append
abbrev pub failing_of : MemHost → List (HostCall × ℕ)
failing_of host = host.plan.failing.items

-- the number of calls of each kind, in the order in which the calls are declared
abbrev pub call_counts : MemHost → List ℕ
call_counts host = host.plan.counts

-- the number of calls of this kind
abbrev pub calls_of : MemHost → HostCall → ℕ
calls_of host call = slice_index (call_counts host) (call_index call)

-- the next such call fails
abbrev pub IsListed : MemHost → HostCall → Type 0
IsListed host call = Contains (failing_of host) (call, next (calls_of host call))

-- one more such call was made, and the rest of the host is unchanged
pub record CountsCall (old new : MemHost) (call : HostCall) : Type 0 where
  pub counts : call_counts new ≡ slice_set (call_counts old) (call_index call) (next (calls_of old call))
  pub failing : failing_of new ≡ failing_of old
  pub names : names_of new ≡ names_of old
  pub pieces : pieces_of new ≡ pieces_of old
  pub room : byte_room new ≡ byte_room old

-- each listed call has a number that its count reaches
abbrev pub AreNumbers : List (HostCall × ℕ) → Type 0
AreNumbers failing = All (λ listed. (0 < listed.1) × (listed.1 < 2 ^ 64 - 1)) failing
