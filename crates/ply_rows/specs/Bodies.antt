-- The rows of a body, and how they end.
--
--   BodyRows          rows one after another, and why there are no more
--   row, ends, refused   the rows after one more; no rows, and no error; no rows, rejected
--   row_then          a row, if it has its fields, and the rows after it
--   rows_of_element   a number of rows of an element, and what follows them
--   ending            what has to follow the last row
--   rows_from         the rows of elements, some already read
--   rows_of head body   the rows of a body, and how they end
--   Ends              the result of a call says how the rows end
use Rattle.std.specs.Prelude.{ℕ, zero, suc, ◌+◌, ◌-◌, ◌≡◌, List, [], ◌∷◌, Result, Ok, Err, Option, Some, None}
use Rattle.ply_head.specs.declared.header.Header.{Header}
use Rattle.ply_head.specs.declared.header.Element.{Element}
use Rattle.ply_head.specs.declared.header.Property.{Property}
use Rattle.ply_rows.specs.declared.place.Field.{Field}
use Rattle.ply_rows.specs.declared.place.RowAt.{RowAt}
use Rattle.ply_rows.specs.declared.refusal.RowRefusal.{RowRefusal}
use Rattle.ply_rows.specs.declared.refusal.RowRefusal.TheVariants.{Trailing}
use Rattle.ply_rows.specs.Rests.{Rest, text, raw, rest_at, fields_of}

-- rows one after another with their fields, and why there are no more, unless they end without an error
pub record BodyRows : Type 0 where
  pub rows : List (RowAt × List Field)
  pub end : Option RowRefusal

-- a row, and then others
abbrev pub row : RowAt → List Field → BodyRows → BodyRows
row at fields others = record { rows = (at, fields) ∷ others.rows; end = others.end }

-- no more rows, without an error
abbrev pub ends : BodyRows
ends = record { rows = []; end = None }

-- no more rows, with this error
abbrev pub refused : RowRefusal → BodyRows
refused why = record { rows = []; end = Some why }

-- a row, if it has its fields, and what follows it
abbrev pub row_then : RowAt → Result (List Field × Rest) RowRefusal → (Rest → BodyRows) → BodyRows
row_then at (Ok read) next = row at read.0 (next read.1)
row_then at (Err e) next = refused e

-- this number of rows of an element with these properties, from this row on, and what follows them: without properties there
-- are none
unfoldable pub rows_of_element : List Property → ℕ → ℕ → ℕ → Rest → (Rest → BodyRows) → BodyRows
rows_of_element [] element number count rest next = next rest
rows_of_element (property ∷ properties) element number zero rest next = next rest
rows_of_element (property ∷ properties) element number (suc count) rest next =
    row_then (record { element = element; row = number }) (fields_of element number 0 (property ∷ properties) rest)
    (λ behind. rows_of_element (property ∷ properties) element (number + 1) count behind next)

-- nothing may follow the last row
abbrev pub ending : Rest → BodyRows
ending (text []) = ends
ending (text (token ∷ tokens)) = refused (Trailing token.place)
ending (raw order place []) = ends
ending (raw order place (b ∷ bytes)) = refused (Trailing place)

-- the rows of the elements, counted from this number on, after some rows of the first that were already read
unfoldable pub rows_from : List Element → ℕ → ℕ → Rest → BodyRows
rows_from [] number given rest = ending rest
rows_from (element ∷ elements) number given rest =
    rows_of_element element.properties number given (element.count - given) rest
    (λ behind. rows_from elements (number + 1) 0 behind)

-- the rows of a body
abbrev pub rows_of : Header → List ℕ → BodyRows
rows_of head body = rows_from head.elements 0 0 (rest_at head.kind body 0)

-- the result of a call says how the rows end
abbrev pub Ends : Result (Unit {0}) RowRefusal → BodyRows → Type 0
Ends (Ok x) rows = rows ≡ ends
Ends (Err why) rows = rows ≡ refused why
