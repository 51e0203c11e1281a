-- Steps of reading a header line by line.
--
--   line_at n parts       line n at the start of some parts, and the parts after it
--   IsEndOf body bytes    a text is a suffix of another
use Rattle.std.specs.Prelude.{ℕ, ◌≡◌, ◌≤◌, List, [], ◌∷◌, length, drop}
use Rattle.std.specs.Prelude.{Result, Ok, Err}
use Rattle.ply_head.specs.declared.refusal.HeadRefusal.{HeadRefusal}
use Rattle.ply_head.specs.declared.refusal.HeadRefusal.TheVariants.{HeadCut}
use Rattle.ply_head.specs.Answers.{◌>>=◌}
use Rattle.ply_head.specs.Headers.{text_of_line}

-- line n at the start of these parts, and the parts after it
abbrev pub line_at : ℕ → List (List ℕ) → Result (List ℕ × List (List ℕ)) HeadRefusal
line_at n [] = Err HeadCut
line_at n (part ∷ more) = text_of_line n part more >>= λ text. Ok (text, more)

-- a text is a suffix of another
pub record IsEndOf (body bytes : List ℕ) : Type 0 where
  pub from : ℕ
  pub fits : from ≤ length bytes
  pub is : body ≡ drop from bytes
