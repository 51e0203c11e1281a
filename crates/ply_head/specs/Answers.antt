-- Results of calls that may fail, one after another.
--
--   ◌>>=◌   a value, and then another made from it, or the first error
use Rattle.std.specs.Prelude.{Result, Ok, Err}

-- a value, and then another made from it, or the first error
infixl 10 ◌>>=◌
abbrev pub ◌>>=◌ : {A B E : Type 0} → Result A E → (A → Result B E) → Result B E
(Ok x) >>= f = f x
(Err e) >>= f = Err e
