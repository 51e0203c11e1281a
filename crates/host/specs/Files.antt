-- The view of the files of a host in memory.
--
--   content file                           the bytes of a file, if it exists
--   files_of files                         the files by name
--   names_of_files files                   the names, in order, of files that exist and that do not exist yet
--   name_at, exists_at, bytes_at, room_at  the file at an index: its name, whether it exists, its bytes, its capacity
--   FilesApart files                       no two files have the same name
--   KeepsPlaces old new                    each index keeps its name and its capacity
use Rattle.std.specs.Prelude.{◌≡◌, ◌≢◌, ℕ, suc, zero, ◌<◌, List, [], ◌∷◌, length, map, Bool, false, if◌then◌else◌, Option, Some}
use Rattle.std.specs.Prelude.{None, string_bytes}
use Rattle.std.specs.Str.{bytes_eq}
use Rattle.host.specs.State.{Files}
use Rattle.host.specs.declared.files.MemFile.{MemFile}

-- the bytes of a file, if it exists
abbrev pub content : MemFile → Option (List ℕ)
content file = if file.exists then Some file.store.bytes.items else None

-- the files by name
abbrev pub files_of : List MemFile → Files
files_of [] name = None
files_of (file ∷ files) name = if bytes_eq name (string_bytes file.name) then content file else files_of files name

-- the names, in order
abbrev pub names_of_files : List MemFile → List (List ℕ)
names_of_files files = map (λ file. string_bytes file.name) files

-- the name of the file at an index
abbrev pub name_at : List MemFile → ℕ → List ℕ
name_at [] place = []
name_at (file ∷ files) zero = string_bytes file.name
name_at (file ∷ files) (suc place) = name_at files place

-- the file at an index exists
abbrev pub exists_at : List MemFile → ℕ → Bool
exists_at [] place = false
exists_at (file ∷ files) zero = file.exists
exists_at (file ∷ files) (suc place) = exists_at files place

-- the bytes of the file at an index
abbrev pub bytes_at : List MemFile → ℕ → List ℕ
bytes_at [] place = []
bytes_at (file ∷ files) zero = file.store.bytes.items
bytes_at (file ∷ files) (suc place) = bytes_at files place

-- the capacity of the file at an index, in bytes
abbrev pub room_at : List MemFile → ℕ → ℕ
room_at [] place = 0
room_at (file ∷ files) zero = file.store.room
room_at (file ∷ files) (suc place) = room_at files place

-- no two files have the same name
abbrev pub FilesApart : List MemFile → Type 0
FilesApart files = (i j : ℕ) → i < j → j < length files → name_at files i ≢ name_at files j

-- each index keeps its name and its capacity
pub record KeepsPlaces (old new : List MemFile) : Type 0 where
  pub count : length new ≡ length old
  pub names : names_of_files new ≡ names_of_files old
  pub each_name : (place : ℕ) → name_at new place ≡ name_at old place
  pub each_room : (place : ℕ) → room_at new place ≡ room_at old place
