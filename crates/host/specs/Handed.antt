-- The initial files of a host in memory.
--
--   Handed                       a name, and the bytes of its file if it exists
--   files_handed, names_handed   the files with which a host in memory is made; their names
--   state_handed files           a host that has these files, with none open and nothing printed
--   NamesApart files             no two names are equal
--   IsMadeOf room file handed    a file was made from what was passed
use Rattle.std.specs.Prelude.{◌≡◌, ◌≢◌, ℕ, zero, suc, ◌<◌, List, [], ◌∷◌, length, map, Vec, String, Option, Some, None, string_bytes}
use Rattle.std.specs.Prelude.{false, if◌then◌else◌}
use Rattle.std.specs.Option.{option_map}
use Rattle.std.specs.Str.{bytes_eq}
use Rattle.std.specs.declared.alloc.Global.{Global}
use Rattle.host.specs.State.{Files, State}
use Rattle.host.specs.Files.{content}
use Rattle.host.specs.declared.files.MemFile.{MemFile}

-- a name, and the bytes of its file if it exists
abbrev pub Handed : Type 0
Handed = String Global × Option (Vec ℕ Global)

-- the files that are passed, by name
abbrev pub files_handed : List Handed → Files
files_handed [] name = None
files_handed (file ∷ files) name =
    if bytes_eq name (string_bytes file.0) then option_map (λ bytes. bytes.items) file.1 else files_handed files name

-- a host that has these files, with no call so far
abbrev pub state_handed : List Handed → State
state_handed files = record {
  told = Some (record { files = files_handed files; left = []; target = []; said = [] });
  faults = 0;
  opens = 0;
  reading = false;
  writing = false;
}

-- the names, in order
abbrev pub names_handed : List Handed → List (List ℕ)
names_handed files = map (λ file. string_bytes file.0) files

-- the name at an index
abbrev pub handed_name : List Handed → ℕ → List ℕ
handed_name [] place = []
handed_name (file ∷ files) zero = string_bytes file.0
handed_name (file ∷ files) (suc place) = handed_name files place

-- no two names are equal
abbrev pub NamesApart : List Handed → Type 0
NamesApart files = (i j : ℕ) → i < j → j < length files → handed_name files i ≢ handed_name files j

-- a file was made from what was passed
pub record IsMadeOf (room : ℕ) (file : MemFile) (handed : Handed) : Type 0 where
  pub name : string_bytes file.name ≡ string_bytes handed.0
  pub bytes : content file ≡ option_map (λ bytes. bytes.items) handed.1
  pub holds : file.store.room ≡ room
