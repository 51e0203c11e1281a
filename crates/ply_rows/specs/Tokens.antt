-- The tokens of a text.
--
--   is_white_space   space, tab, CR or LF
--   Token            a run of bytes, and its offset
--   placed           parts of a text with their offsets
--   tokens_from      the tokens of a text that begins at an offset
--   tokens_at        the tokens of a body from an offset on
use Rattle.std.specs.Prelude.{ℕ, ◌+◌, List, [], ◌∷◌, Bool, ◌==◌, ◌||◌, length, drop, filter}
use Rattle.std.specs.List.{slice_split}
use Rattle.ply_head.specs.Lines.{has_bytes}

-- space, tab, CR or LF
abbrev pub is_white_space : ℕ → Bool
is_white_space b = (b == 32) || ((b == 9) || ((b == 13) || (b == 10)))

-- a run of bytes, and its offset
pub record Token : Type 0 where
  pub place : ℕ
  pub bytes : List ℕ

-- consecutive parts from an offset on, with one byte between each two
abbrev pub placed : ℕ → List (List ℕ) → List Token
placed place [] = []
placed place (part ∷ parts) = record { place = place; bytes = part } ∷ placed (place + length part + 1) parts

-- the runs of bytes other than white space, in a text that begins at an offset
unfoldable pub tokens_from : ℕ → List ℕ → List Token
tokens_from place bytes = filter (λ token. has_bytes token.bytes) (placed place (slice_split is_white_space bytes))

-- the tokens of a body from an offset on
unfoldable pub tokens_at : List ℕ → ℕ → List Token
tokens_at body place = tokens_from place (drop place body)
