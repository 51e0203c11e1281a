-- Paths by links.
--
--   ArePath Links from to      from one number to another by links, one after another
use Rattle.std.specs.Prelude.{ℕ}

-- by no link, or by one more
pub data ArePath (Links : ℕ → ℕ → Type 0) : (from to : ℕ) → Type 0 where
  none : {c : ℕ} → ArePath Links c c
  more : {c d e : ℕ} → ArePath Links c d → Links d e → ArePath Links c e
