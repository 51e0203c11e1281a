-- Which bodies have which rows, in the format's own terms: the body is a sequence of pieces, one for each property of each row
-- that the header announces, and nothing follows.
--
--   IsGroup        tokens that encode a property in a text
--   group_field    the field of such tokens
--   IsPiece        bytes that encode a property in a binary body
--   piece_field    the field of such bytes
--   Begins         the rest of a body begins with a property
--   BeginsRow      it begins with the properties of a row
--   announced      the rows that elements announce, with their properties
--   Follows        the rest of a body is these rows, and nothing follows
--   HasRows head body rows
--                  the body is exactly these rows, one for each that the header states. A row is divided into one piece
--                  for each property
use Rattle.std.specs.Prelude.{ℕ, zero, suc, ◌+◌, ◌-◌, ◌*◌, ◌≡◌, ◌≤◌, pos, List, [], ◌∷◌, ◌++◌, length, take, Ok}
use Rattle.num_text.specs.WholeNumbers.{whole_of}
use Rattle.ply_head.specs.declared.header.Header.{Header}
use Rattle.ply_head.specs.declared.header.Element.{Element}
use Rattle.ply_head.specs.declared.header.Property.{Property}
use Rattle.ply_head.specs.declared.header.Endian.{Endian}
use Rattle.ply_head.specs.declared.header.Shape.{Shape}
use Rattle.ply_head.specs.declared.header.Shape.TheVariants.{One, Many}
use Rattle.ply_rows.specs.declared.place.Field.{Field}
use Rattle.ply_rows.specs.declared.place.RowAt.{RowAt}
use Rattle.ply_rows.specs.Tokens.{Token}
use Rattle.ply_rows.specs.Texts.{field_of_items}
use Rattle.ply_rows.specs.Binaries.{size_of, number_of, list_field}
use Rattle.ply_rows.specs.Rests.{Rest, text, raw, rest_at}

-- tokens that encode a property: one, or one that counts the others, and those
abbrev pub IsGroup : Shape → List Token → Type 0
IsGroup shape [] = ⊥
IsGroup (One scalar) (token ∷ items) = items ≡ []
IsGroup (Many count item) (token ∷ items) = (whole_of token.bytes ≡ Ok (pos (length items))) × (length items ≤ 4294967295)

-- the field of these tokens: that of the one, or that of the others
abbrev pub group_field : Shape → List Token → Field
group_field (One scalar) group = field_of_items group
group_field (Many count item) [] = field_of_items []
group_field (Many count item) (token ∷ items) = field_of_items items

-- bytes that encode a property with this number of items: a value, or the number of the items and then the items
abbrev pub IsPiece : Endian → Shape → ℕ → List ℕ → Type 0
IsPiece order (One scalar) items piece = length piece ≡ size_of scalar
IsPiece order (Many count item) items piece =
    (length piece ≡ size_of count + items * size_of item) × (number_of order count (take (size_of count) piece) ≡ pos items)
    × (items ≤ 4294967295)

-- the field of these bytes, which begin at an offset
abbrev pub piece_field : Shape → ℕ → ℕ → Field
piece_field (One scalar) items place = record { place = place; size = size_of scalar; items = 1 }
piece_field (Many count item) items place = list_field (place + size_of count) (items * size_of item) items

-- tokens begin with those of a property, with this field and this rest
pub record BeginsText (shape : Shape) (field : Field) (tokens : List Token) (left : Rest) : Type 0 where
  pub group : List Token
  pub behind : List Token
  pub is_group : IsGroup shape group
  pub cut : tokens ≡ group ++ behind
  pub field_is : field ≡ group_field shape group
  pub left_is : left ≡ text behind

-- bytes from an offset on begin with those of a property, with this field and this rest
pub record BeginsBytes (order : Endian) (shape : Shape) (field : Field) (place : ℕ) (bytes : List ℕ) (left : Rest) : Type 0 where
  pub items : ℕ
  pub piece : List ℕ
  pub behind : List ℕ
  pub is_piece : IsPiece order shape items piece
  pub cut : bytes ≡ piece ++ behind
  pub field_is : field ≡ piece_field shape items place
  pub left_is : left ≡ raw order (place + length piece) behind

-- the rest of a body begins with a property with this field
abbrev pub Begins : Shape → Field → Rest → Rest → Type 0
Begins shape field (text tokens) left = BeginsText shape field tokens left
Begins shape field (raw order place bytes) left = BeginsBytes order shape field place bytes left

-- the rest of a body begins with properties, one after another, with these fields
abbrev pub BeginsRow : List Property → List Field → Rest → Rest → Type 0
BeginsRow [] [] before left = left ≡ before
BeginsRow [] (field ∷ fields) before left = ⊥
BeginsRow (property ∷ properties) [] before left = ⊥
BeginsRow (property ∷ properties) (field ∷ fields) before left =
    (behind : Rest) × (Begins property.shape field before behind × BeginsRow properties fields behind left)

-- as many rows of an element as the header states, from a given row on; no rows if the element has no properties
abbrev pub announced_rows : List Property → ℕ → ℕ → ℕ → List (RowAt × List Property)
announced_rows [] element row count = []
announced_rows (property ∷ properties) element row zero = []
announced_rows (property ∷ properties) element row (suc count) =
    (record { element = element; row = row }, property ∷ properties)
    ∷ announced_rows (property ∷ properties) element (row + 1) count

-- the rows that elements announce, counted from this number on, after some rows of the first that were already read
abbrev pub announced : List Element → ℕ → ℕ → List (RowAt × List Property)
announced [] number given = []
announced (element ∷ elements) number given =
    announced_rows element.properties number given (element.count - given) ++ announced elements (number + 1) 0

-- nothing is left
abbrev pub IsNothing : Rest → Type 0
IsNothing (text tokens) = tokens ≡ []
IsNothing (raw order place bytes) = bytes ≡ []

-- the rest of a body is these rows, one for each that is announced, and nothing follows
abbrev pub Follows : List (RowAt × List Property) → List (RowAt × List Field) → Rest → Type 0
Follows [] [] rest = IsNothing rest
Follows [] (row ∷ rows) rest = ⊥
Follows (due ∷ others) [] rest = ⊥
Follows (due ∷ others) (row ∷ rows) rest =
    (row.0 ≡ due.0) × ((behind : Rest) × (BeginsRow due.1 row.1 rest behind × Follows others rows behind))

-- the body is these rows with their fields, one for each that the header announces
abbrev pub HasRows : Header → List ℕ → List (RowAt × List Field) → Type 0
HasRows head body rows = Follows (announced head.elements 0 0) rows (rest_at head.kind body 0)
