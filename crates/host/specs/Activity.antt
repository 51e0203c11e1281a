-- The current file activity of a host in memory.
--
--   is_reading, is_writing    whether a file is open for reading, for writing
--   bytes_left files activity   the bytes left of the file that is open for reading, none if none is
--   target_of files activity  the name of the file that is open for writing, empty if none is
--   told_by files activity said    what is exposed
--   coherent                  the invariant of hosts: what is exposed of an open file is empty if none is open
use Rattle.std.specs.Prelude.{ℕ, List, [], drop, Bool, true, false, refl}
use Rattle.host.specs.State.{Told, ClosedIsEmpty}
use Rattle.host.specs.Files.{files_of, name_at, bytes_at}
use Rattle.host.specs.declared.files.MemFile.{MemFile}
use Rattle.host.specs.declared.memory.Activity.{Activity}
use Rattle.host.specs.declared.memory.Activity.TheVariants.{Idle, Reading, Writing}

-- a file is open for reading
abbrev pub is_reading : Activity → Bool
is_reading Idle = false
is_reading (Reading at start) = true
is_reading (Writing at) = false

-- a file is open for writing
abbrev pub is_writing : Activity → Bool
is_writing Idle = false
is_writing (Reading at start) = false
is_writing (Writing at) = true

-- the bytes left of the file that is open for reading
abbrev pub bytes_left : List MemFile → Activity → List ℕ
bytes_left files Idle = []
bytes_left files (Reading at start) = drop start (bytes_at files at)
bytes_left files (Writing at) = []

-- the name of the file that is open for writing
abbrev pub target_of : List MemFile → Activity → List ℕ
target_of files Idle = []
target_of files (Reading at start) = []
target_of files (Writing at) = name_at files at

-- what is exposed
abbrev pub told_by : List MemFile → Activity → List ℕ → Told
told_by files activity said =
    record { files = files_of files; left = bytes_left files activity; target = target_of files activity; said = said }

-- what is exposed of an open file is empty if none is open
pub coherent : (files : List MemFile) (activity : Activity) (said : List ℕ)
    → ClosedIsEmpty (is_reading activity) (is_writing activity) (told_by files activity said)
coherent files Idle said = record { left = λ _. refl; target = λ _. refl }
coherent files (Reading at start) said = record { left = λ closed. cc; target = λ _. refl }
coherent files (Writing at) said = record { left = λ _. refl; target = λ closed. cc }
