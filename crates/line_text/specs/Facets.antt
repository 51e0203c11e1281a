-- Vertex numbers in lines, and the three that name a directed facet.
--
--   IsVertexNumber n     a number of 32 bits
--   ArePairNumbers p     two of them
--   pair_fields p end    two numbers, a space after the first and this byte after the second
--   facet_fields f end   a facet's numbers, a space after the first two and this byte after the last
use Rattle.std.specs.Prelude.{ℕ, ◌≤◌, List, [], ◌∷◌, ◌++◌}
use Rattle.line_text.specs.Numbers.{space, ended}

abbrev pub IsVertexNumber : ℕ → Type 0
IsVertexNumber n = n ≤ 4294967295

abbrev pub ArePairNumbers : ℕ × ℕ → Type 0
ArePairNumbers p = IsVertexNumber p.0 × IsVertexNumber p.1

-- a b, and the byte after b
abbrev pub pair_fields : ℕ × ℕ → ℕ → List ℕ
pair_fields p end = ended p.0 space ++ ended p.1 end

-- The three numbers of a facet with single spaces between them, and then one byte.
abbrev pub facet_fields : List ℕ → ℕ → List ℕ
facet_fields (a ∷ b ∷ c ∷ []) end = ended a space ++ (ended b space ++ ended c end)
facet_fields _ end = []
