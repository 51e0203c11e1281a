-- The effect of the calls over any host: a file read or written whole, all bytes appended or printed.
--
--   SaysFront, AppendsFront, WritesFront    the state after a failure: a prefix of the bytes was written
--   writes name bytes state                 the named file contains the bytes, and no file is open
--   reads_whole name state                  the named file was opened and read to its end
--   TakesFront, ReadFails                   the state after a read that ran out of memory, or in which a call failed
--   OnlyReads before after                  what a read does not change, and that it opens one file
--   HasCause result before after            that is so exactly if a reading answers that a call failed
use Rattle.std.specs.Prelude.{◌≡◌, ℕ, ◌≤◌, List, [], length, take, false, true, Option, Result, Ok, Err, ◌⊎◌}
use Rattle.host.specs.Counts.{next, Rose}
use Rattle.host.specs.State.{State, Told, after_change, FailedFrom, HasFile, with_file, opens_file, opens_none, takes}
use Rattle.host.specs.State.{stops_reading, appends, says}
use Rattle.host.specs.declared.calls.ReadRefusal.{ReadRefusal}
use Rattle.host.specs.declared.calls.ReadRefusal.TheVariants as refusals

-- a prefix of the bytes was printed, and a call failed
abbrev pub SaysFront : List ℕ → State → State → Type 0
SaysFront bytes before after = (count : ℕ) × (count ≤ length bytes) × FailedFrom (says (take count bytes) before) after

-- a prefix of the bytes was appended to the file that is open for writing, and a call failed
abbrev pub AppendsFront : List ℕ → State → State → Type 0
AppendsFront bytes before after = (count : ℕ) × (count ≤ length bytes) × FailedFrom (appends (take count bytes) before) after

-- the named file contains these bytes, and no file is open
abbrev pub writes : List ℕ → List ℕ → State → State
writes name bytes state = record state {
  reading = false;
  writing = false;
  told = after_change (λ told. record told { files = with_file name bytes told.files; left = []; target = [] }) state.told;
}

-- a call failed: the file is unchanged, or contains a prefix of the bytes (possibly all)
abbrev pub WritesFront : List ℕ → List ℕ → State → State → Type 0
WritesFront name bytes before after =
    FailedFrom (stops_reading before) after
    ⊎ ((count : ℕ) × (count ≤ length bytes) × FailedFrom (writes name (take count bytes) before) after)

-- the named file was opened, and all its bytes were read
abbrev pub reads_whole : List ℕ → State → State
reads_whole name state = record state {
  opens = next state.opens;
  reading = true;
  told = after_change (λ told. record told { left = [] }) state.told;
}

-- some bytes of the named file were read, at most the limit
abbrev pub TakesFront : ℕ → List ℕ → State → State → Type 0
TakesFront limit name before after =
    HasFile name before × ((count : ℕ) × (count ≤ limit) × (after ≡ takes count (opens_file name before)))

-- a call failed: the file was not opened, or it was, and after some bytes no more were read
abbrev pub ReadFails : ℕ → List ℕ → State → State → Type 0
ReadFails limit name before after =
    FailedFrom (opens_none before) after
    ⊎ (HasFile name before × ((count : ℕ) × (count ≤ limit) × FailedFrom (takes count (opens_file name before)) after))

-- what is exposed, except the bytes left
abbrev pub apart_from_left : Option Told → Option Told
apart_from_left = after_change (λ told. record told { left = [] })

-- one file was opened, and only the bytes left, whether a file is open for reading, and the fault count may have changed
pub record OnlyReads (before after : State) : Type 0 where
  pub told : apart_from_left after.told ≡ apart_from_left before.told
  pub writing : after.writing ≡ before.writing
  pub opens : after.opens ≡ next before.opens

-- the fault count rose if a host call failed, and is else unchanged
abbrev pub HasCause : {T : Type 0} → Result T ReadRefusal → ℕ → ℕ → Type 0
HasCause (Err refusals.Failed) before after = Rose before after
HasCause (Err refusals.TooLong) before after = after ≡ before
HasCause (Err refusals.NoMemory) before after = after ≡ before
HasCause (Ok _) before after = after ≡ before
