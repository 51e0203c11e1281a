-- The fields of a text, in terms of its tokens.
--
--   Gives, Fails      the result of a call is that of a definition, unless memory ran out
--   end_of_tokens     the end of the last of some tokens
--   field_of_items    the field of a list with these items
--   count_in          an integer, as a number of items
--   count_or_refusal   a token that was read as an integer, as a number of items
--   items_of          the field of this number of items, and the tokens after them
--   items_end         the end of this number of tokens, and the tokens after them
--   text_field        the field of a property, and the tokens after it
use Rattle.std.specs.Prelude.{ℕ, ◌+◌, ◌-◌, ◌≡◌, ℤ, pos, negsuc, List, [], ◌∷◌, nat_lt, length, take, drop, Result, Ok, Err}
use Rattle.std.specs.Prelude.{if◌then◌else◌}
use Rattle.num_text.specs.WholeNumbers.{whole_of}
use Rattle.num_text.specs.declared.refusal.NumRefusal.{NumRefusal}
use Rattle.ply_head.specs.declared.header.Shape.{Shape}
use Rattle.ply_head.specs.declared.header.Shape.TheVariants.{One, Many}
use Rattle.ply_head.specs.Answers.{◌>>=◌}
use Rattle.ply_rows.specs.declared.place.Field.{Field}
use Rattle.ply_rows.specs.declared.place.Place.{Place}
use Rattle.ply_rows.specs.declared.refusal.RowRefusal.{RowRefusal}
use Rattle.ply_rows.specs.declared.refusal.RowRefusal.TheVariants.{BadCount, Cut, NoMemory}
use Rattle.ply_rows.specs.Tokens.{Token}

-- the error is that of the definition, unless memory ran out
abbrev pub Fails : {Y : Type 0} → RowRefusal → Result Y RowRefusal → Type 0
Fails NoMemory read = Unit {0}
Fails e read = read ≡ Err e

-- the result of a call, seen by view, is that of the definition, unless memory ran out
abbrev pub Gives : {X Y : Type 0} → (X → Y) → Result X RowRefusal → Result Y RowRefusal → Type 0
Gives view (Ok x) read = read ≡ Ok (view x)
Gives view (Err e) read = Fails e read

-- the offset after the last of some tokens, or this offset if there are none
abbrev pub end_of_tokens : ℕ → List Token → ℕ
end_of_tokens place [] = place
end_of_tokens place (token ∷ tokens) = end_of_tokens (token.place + length token.bytes) tokens

-- the field of a list with these items: from the first to the end of the last
abbrev pub field_of_items : List Token → Field
field_of_items [] = record { place = 0; size = 0; items = 0 }
field_of_items (token ∷ tokens) = record {
  place = token.place;
  size = end_of_tokens (token.place + length token.bytes) tokens - token.place;
  items = length (token ∷ tokens);
}

-- a number of items, which is at least 0 and at most 2 ^ 32 - 1
abbrev pub count_in : Place → ℤ → Result ℕ RowRefusal
count_in at (pos n) = if nat_lt 4294967295 n then Err (BadCount at) else Ok n
count_in at (negsuc n) = Err (BadCount at)

-- a token that was read as an integer, or was not, as a number of items
abbrev pub count_or_refusal : Place → Result ℤ NumRefusal → Result ℕ RowRefusal
count_or_refusal at (Ok number) = count_in at number
count_or_refusal at (Err e) = Err (BadCount at)

-- the field of this number of items, and the tokens after them
abbrev pub items_of : Place → ℕ → List Token → Result (Field × List Token) RowRefusal
items_of at n tokens = if nat_lt (length tokens) n then Err (Cut at) else Ok (field_of_items (take n tokens), drop n tokens)

-- the end of this number of tokens, and the tokens after them
abbrev pub items_end : Place → ℕ → ℕ → List Token → Result (ℕ × List Token) RowRefusal
items_end at n place tokens =
    if nat_lt (length tokens) n then Err (Cut at) else Ok (end_of_tokens place (take n tokens), drop n tokens)

-- the field of a property in a text, and the tokens after it: one token, or one that counts the items and then the items
unfoldable pub text_field : Place → Shape → List Token → Result (Field × List Token) RowRefusal
text_field at shape [] = Err (Cut at)
text_field at (One scalar) (token ∷ tokens) = Ok (record { place = token.place; size = length token.bytes; items = 1 }, tokens)
text_field at (Many count item) (token ∷ tokens) = count_or_refusal at (whole_of token.bytes) >>= λ n. items_of at n tokens
