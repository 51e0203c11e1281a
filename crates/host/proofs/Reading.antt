-- What a loop that reads a file to its end keeps.
use Rattle.std.proofs.Common.{◌≡◌, ℕ, ◌≤◌, List, ◌++◌, length, drop, Option, Some, None, IfSome}
use Rattle.host.specs.State.{State, HasFile, takes, opens_file}

-- these bytes are a front of the file
abbrev pub IsFileFront : List ℕ → Option (List ℕ) → Type 0
IsFileFront bytes None = ⊥
IsFileFront bytes (Some all) = bytes ++ drop (length bytes) all ≡ all

-- so far the bytes are a front of the named file, and they are what was taken of it
pub record IsReading (limit : ℕ) (name : List ℕ) (before now : State) (bytes : List ℕ) : Type 0 where
  pub there : HasFile name before
  pub within : length bytes ≤ limit
  pub taken : now ≡ takes (length bytes) (opens_file name before)
  pub front : IfSome before.told (λ told. IsFileFront bytes (told.files name))
