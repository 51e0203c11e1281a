-- Numbers in lines.
--
--   ended n end         the decimal text of a number and the byte that ends it
--   Lacks byte text     no byte of the text is this one
--   BeginsWithNone IsForm text_of text   no text of the form is a prefix of the text
--   counted text n      a text, and the number that ends its last line
--   signed_ended z end  the decimal text of a signed number and the byte that ends it
--   IsSignedBetween     an integer from the least to the greatest, both included
use Rattle.std.specs.Prelude.{ℕ, ◌≡◌, ◌≢◌, ◌<◌, ℤ, ◌≤ℤ◌, List, [], ◌∷◌, ◌++◌, length, slice_index, decimal}
use Rattle.std.specs.Fmt.{signed_decimal}
pub use Rattle.num_text.specs.Separators.{space, line_feed}

-- The digits of a number, and then one byte.
abbrev pub ended : ℕ → ℕ → List ℕ
ended n end = decimal n ++ (end ∷ [])

-- A text, then a number, then a line feed.
abbrev pub counted : List ℕ → ℕ → List ℕ
counted text n = text ++ ended n line_feed

-- The digits of an integer with its sign, and then one byte.
abbrev pub signed_ended : ℤ → ℕ → List ℕ
signed_ended z end = signed_decimal z ++ (end ∷ [])

-- a signed number from the least to the greatest, both included
abbrev pub IsSignedBetween : ℤ → ℤ → ℤ → Type 0
IsSignedBetween least greatest z = (least ≤ℤ z) × (z ≤ℤ greatest)

-- no byte of the text is this one
abbrev pub Lacks : ℕ → List ℕ → Type 0
Lacks byte text = (k : ℕ) → k < length text → slice_index text k ≢ byte

-- no valid text is a prefix of this one
abbrev pub BeginsWithNone : {A : Type 0} → (A → Type 0) → (A → List ℕ) → List ℕ → Type 0
BeginsWithNone {A} IsForm text_of text = (a : A) (rest : List ℕ) → IsForm a → ¬ (text ≡ text_of a ++ rest)
