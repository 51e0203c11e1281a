-- Bytes between the numbers of a text.
--
--   space, line_feed   the bytes that end a number within a line, and a line
use Rattle.std.specs.Prelude.{ℕ}

-- The byte 32, which ends a number within a line.
abbrev pub space : ℕ
space = 32

-- The byte 10, which ends each line.
abbrev pub line_feed : ℕ
line_feed = 10
