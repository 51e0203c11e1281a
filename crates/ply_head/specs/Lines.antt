-- The lines of a text, and the tokens of a line.
--
--   is_line_feed, is_blank   the byte LF, and the bytes space and tab
--   parts_of     a text split at each LF; all parts but the last are lines
--   line_text    a line without its end
--   has_bytes    a list of bytes is not empty
--   words_of     the tokens of a line
use Rattle.std.specs.Prelude.{ℕ, List, [], ◌∷◌, Bool, true, false, ◌==◌, ◌||◌, filter, if◌then◌else◌}
use Rattle.std.specs.List.{slice_split}

-- LF
abbrev pub is_line_feed : ℕ → Bool
is_line_feed b = b == 10

-- the text split at each LF: all parts but the last are lines
unfoldable pub parts_of : List ℕ → List (List ℕ)
parts_of bytes = slice_split is_line_feed bytes

-- a line without its end: if the byte before LF is CR, it belongs to the end
abbrev pub line_text : List ℕ → List ℕ
line_text [] = []
line_text (b ∷ []) = if b == 13 then [] else b ∷ []
line_text (b ∷ next ∷ more) = b ∷ line_text (next ∷ more)

-- space or tab
abbrev pub is_blank : ℕ → Bool
is_blank b = (b == 32) || (b == 9)

-- at least one byte
abbrev pub has_bytes : List ℕ → Bool
has_bytes [] = false
has_bytes (b ∷ bytes) = true

-- the runs of bytes other than space and tab
unfoldable pub words_of : List ℕ → List (List ℕ)
words_of line = filter has_bytes (slice_split is_blank line)
