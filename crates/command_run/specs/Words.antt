-- The names of files in the arguments of a command.
--
--   Names                 an input file, and an output file
--   is_other name others  it is none of these
--   is_name name others   it is not empty, and none of these
--   are_names names       none is empty, and no two are equal
use Rattle.std.specs.Prelude.{ℕ, List, [], ◌∷◌, Bool, true, not, ◌&&◌, ◌==◌, length}
use Rattle.std.specs.Str.{bytes_eq}

-- an input file, and an output file
pub record Names : Type 0 where
  pub input : List ℕ
  pub output : List ℕ

-- the name is none of these
abbrev pub is_other : List ℕ → List (List ℕ) → Bool
is_other name [] = true
is_other name (first ∷ rest) = not (bytes_eq name first) && is_other name rest

-- the name is not empty, and none of these
abbrev pub is_name : List ℕ → List (List ℕ) → Bool
is_name name others = not (length name == 0) && is_other name others

-- none is empty, and no two are equal
abbrev pub are_names : List (List ℕ) → Bool
are_names [] = true
are_names (first ∷ rest) = is_name first rest && are_names rest
