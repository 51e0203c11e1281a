-- Whole numbers as text.
--
--   is_minus      a text begins with a minus sign
--   behind_sign   the text after an optional sign
--   are_digits    a text is one or more digits
--   significant   digits without their leading zeros
--   signed        a number with its sign
--   whole_of      the whole number that a token is, or its error
use Rattle.std.specs.Prelude.{ℕ, ℤ, pos, List, [], ◌∷◌, Bool, true, false, not, ◌==◌, ◌||◌, ◌&&◌, nat_le, nat_lt, length}
use Rattle.std.specs.Prelude.{Result, Ok, Err, if◌then◌else◌}
use Rattle.std.proofs.Common.{neg_ℤ}
use Rattle.std.specs.List.{list_all}
use Rattle.std.specs.Char.{is_ascii_digit}
use Rattle.std.specs.Str.Parse.{digits_value}
use Rattle.num_text.specs.declared.refusal.NumRefusal.{NumRefusal}
use Rattle.num_text.specs.declared.refusal.NumRefusal.TheVariants.{NotANumber, LongNumber}

-- a text begins with a minus sign
abbrev pub is_minus : List ℕ → Bool
is_minus [] = false
is_minus (b ∷ bytes) = b == 45

-- the bytes after an optional plus or minus sign
abbrev pub behind_sign : List ℕ → List ℕ
behind_sign [] = []
behind_sign (b ∷ bytes) = if (b == 43) || (b == 45) then bytes else b ∷ bytes

-- at least one digit, and nothing else
abbrev pub are_digits : List ℕ → Bool
are_digits bytes = nat_le 1 (length bytes) && list_all is_ascii_digit bytes

-- digits without their leading zeros
abbrev pub significant : List ℕ → List ℕ
significant [] = []
significant (b ∷ bytes) = if b == 48 then significant bytes else b ∷ bytes

-- a number with its sign
abbrev pub signed : Bool → ℕ → ℤ
signed false n = pos n
signed true n = neg_ℤ (pos n)

-- the whole number that a token is, or its first error: digits after an optional sign, at most 18 of them after the leading
-- zeros
unfoldable pub whole_of : List ℕ → Result ℤ NumRefusal
whole_of token =
    if not (are_digits (behind_sign token)) then Err NotANumber
    else (if nat_lt 18 (length (significant (behind_sign token))) then Err LongNumber
    else Ok (signed (is_minus token) (digits_value 10 (behind_sign token))))
