-- The text of a slice, each line ended by a line feed.
--
--   loops_word, loop_word   the first words of the lines with the counts
--   numbers_line face x y d, step_line s   `A X Y D`: a step's face, its point's x and y times d, and d
--   ring_text steps         `loop N`, and a line for each of the N steps
--   slice_text rings        `loops L`, and the L loops
use Rattle.std.specs.Prelude.{ℕ, ℤ, List, ◌++◌, length, codes}
use Rattle.std.specs.List.{flat_map}
use Rattle.line_text.specs.Numbers.{space, line_feed, ended, counted, signed_ended}
use Rattle.solid_slice.specs.declared.step.Step.{Step}

unfoldable pub loops_word : List ℕ
loops_word = codes "loops "

unfoldable pub loop_word : List ℕ
loop_word = codes "loop "

-- A X Y D
abbrev pub numbers_line : (face : ℕ) → (x y d : ℤ) → List ℕ
numbers_line face x y d = ended face space ++ (signed_ended x space ++ (signed_ended y space ++ signed_ended d line_feed))

-- the face, and its point
abbrev pub step_line : Step → List ℕ
step_line s = numbers_line s.face s.x s.y s.d

-- loop N, and the steps
abbrev pub ring_text : List Step → List ℕ
ring_text steps = counted loop_word (length steps) ++ flat_map step_line steps

-- loops L, and the loops
abbrev pub slice_text : List (List Step) → List ℕ
slice_text rings = counted loops_word (length rings) ++ flat_map ring_text rings
