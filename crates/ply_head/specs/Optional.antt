-- Optional values, one after another.
--
--   ◌>>=◌   a value, and then another made from it, if both exist
use Rattle.std.specs.Prelude.{Option}
use Rattle.std.specs.Option.{option_and_then}

-- a value, and then another made from it, if both exist
infixl 10 ◌>>=◌
abbrev pub ◌>>=◌ : {A B : Type 0} → Option A → (A → Option B) → Option B
o >>= f = option_and_then f o
