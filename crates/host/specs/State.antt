-- The view of a host, and the effect of its six calls.
--
--   Files                     the bytes of files by name
--   Told                      the files by name, the bytes left of the file that is read, the name of the file that is
--                             written, and all that was printed
--   State                     a host as contracts see it: always its counts of faults and opens, and whether a file is
--                             read or written; also its bytes (`Told`), if the host states them
--   after_change change told  what is exposed after a change, if anything is exposed
--   IsCoherent state          no bytes are left of a file that is not open for reading, and no name is written to if none is
--                               open
--   FailedFrom would after    the state that the call would leave, except that the count of faults has risen, or is at
--                             its greatest value
--   file_bytes files name     the bytes of a file
--   HasFile name state        if the host exposes its files, there is one of this name
--   with_file, with_more      the files with one replaced or created, or with more bytes at its end
--   opens_file, opens_none, takes, creates, stops_reading, appends, finishes, says
--                                  the state after a call, each named for what it does
--   IsNextPiece count buffer left  what a read puts into the buffer
--   IsFrontCount count bytes   the number of bytes that a call may take
use Rattle.std.specs.Prelude.{◌≡◌, ℕ, ◌≤◌, ◌<◌, ◌↔◌, List, [], ◌++◌, length, take, drop, Bool, true, false, if◌then◌else◌}
use Rattle.std.specs.Prelude.{Option, Some, None, IsSome, IfSome, unwrap_or}
use Rattle.host.specs.Counts.{next, Rose}
use Rattle.std.specs.Option.{option_map}
use Rattle.std.specs.Str.{bytes_eq}

-- the bytes of each file by its name, `None` if no file has the name
abbrev pub Files : Type 0
Files = List ℕ → Option (List ℕ)

-- The bytes that a host exposes.
pub record Told : Type 0 where
  pub files : Files
  -- the bytes left of the file that is open for reading
  pub left : List ℕ
  -- the name of the file that is open for writing
  pub target : List ℕ
  -- the whole output
  pub said : List ℕ

-- A host: its bytes, if it exposes them, and what it always exposes.
pub record State : Type 0 where
  pub told : Option Told
  -- the number of failed calls
  pub faults : ℕ
  -- the number of calls of `open`
  pub opens : ℕ
  -- a file is open for reading
  pub reading : Bool
  -- a file is being written
  pub writing : Bool

-- what is exposed after a change
abbrev pub after_change : (Told → Told) → Option Told → Option Told
after_change change None = None
after_change change (Some told) = Some (change told)

-- what is exposed of an open file is empty if no file is open
pub record ClosedIsEmpty (reading writing : Bool) (told : Told) : Type 0 where
  pub left : reading ≡ false → told.left ≡ []
  pub target : writing ≡ false → told.target ≡ []

-- if the host exposes its bytes, none are left of a file that is not open for reading, and no name is written to if none is
-- open
abbrev pub IsCoherent : State → Type 0
IsCoherent state = IfSome state.told (ClosedIsEmpty state.reading state.writing)

-- a call that failed: the state that it would leave, but the fault count rose
pub record FailedFrom (would after : State) : Type 0 where
  pub rose : Rose would.faults after.faults
  pub else_same : after ≡ record would { faults = after.faults }

-- the bytes of a file, none if there is no such file
abbrev pub file_bytes : Files → List ℕ → List ℕ
file_bytes files name = unwrap_or (files name) []

-- if the host exposes its files, there is one of this name
abbrev pub HasFile : List ℕ → State → Type 0
HasFile name state = IfSome state.told (λ told. IsSome (told.files name))

-- the files, with this one in place of the one of the same name
abbrev pub with_file : List ℕ → List ℕ → Files → Files
with_file name bytes files asked = if bytes_eq asked name then Some bytes else files asked

-- the files, with these bytes at the end of the named one
abbrev pub with_more : List ℕ → List ℕ → Files → Files
with_more name more files asked = if bytes_eq asked name then option_map (λ bytes. bytes ++ more) (files asked) else files asked

-- the named file is read from its first byte on
abbrev pub opens_file : List ℕ → State → State
opens_file name state = record state {
  opens = next state.opens;
  reading = true;
  told = after_change (λ told. record told { left = file_bytes told.files name }) state.told;
}

-- a file was asked for, and none is open for reading
abbrev pub opens_none : State → State
opens_none state = record state {
  opens = next state.opens;
  reading = false;
  told = after_change (λ told. record told { left = [] }) state.told;
}

-- this number of bytes was read from those left
abbrev pub takes : ℕ → State → State
takes count state = record state { told = after_change (λ told. record told { left = drop count told.left }) state.told }

-- what is read: the next bytes, and none exactly at the end, if the buffer is not empty
pub record IsNextPiece (count : ℕ) (buffer : List ℕ) (left : List ℕ) : Type 0 where
  pub enough : count ≤ length left
  pub bytes : take count buffer ≡ take count left
  pub at_end : 0 < length buffer → (count ≡ 0) ↔ (left ≡ [])

-- no file is open for reading, and the named file is empty and open for writing
abbrev pub creates : List ℕ → State → State
creates name state = record state {
  reading = false;
  writing = true;
  told = after_change (λ told. record told { files = with_file name [] told.files; left = []; target = name }) state.told;
}

-- no file is open for reading
abbrev pub stops_reading : State → State
stops_reading state = record state { reading = false; told = after_change (λ told. record told { left = [] }) state.told }

-- bytes were appended to the file that is open for writing
abbrev pub appends : List ℕ → State → State
appends bytes state =
    record state { told = after_change (λ told. record told { files = with_more told.target bytes told.files }) state.told }

-- no file is open for writing
abbrev pub finishes : State → State
finishes state = record state { writing = false; told = after_change (λ told. record told { target = [] }) state.told }

-- bytes were printed
abbrev pub says : List ℕ → State → State
says bytes state = record state { told = after_change (λ told. record told { said = told.said ++ bytes }) state.told }

-- at most the number of bytes, and at least one unless there are none
pub record IsFrontCount (count : ℕ) (bytes : List ℕ) : Type 0 where
  pub within : count ≤ length bytes
  pub some : 0 < length bytes → 0 < count
