-- A step of reading a decimal.
--
--   within_limit n    a number of units, if it is within the limit
use Rattle.std.specs.Prelude.{ℕ, nat_lt, Option, None}
use Rattle.std.specs.Prelude.{Some, if◌then◌else◌}
use Rattle.num_text.specs.declared.decimal.TheConstants.{SCALED_LIMIT}

-- a number of units, if it is within the limit
abbrev pub within_limit : ℕ → Option ℕ
within_limit n = if nat_lt SCALED_LIMIT n then None else Some n
