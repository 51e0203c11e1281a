-- The rest of a body, and the fields of a row in it.
--
--   Rest        the rest of a body: tokens, or bytes from an offset on
--   rest_at     the rest of a body after an offset
--   field_of    the field of a property, and the rest after it
--   fields_of   the fields of a row's properties, and the rest after them
use Rattle.std.specs.Prelude.{ℕ, ◌+◌, List, [], ◌∷◌, drop, Result, Ok}
use Rattle.ply_head.specs.declared.header.Kind.{Kind}
use Rattle.ply_head.specs.declared.header.Kind.TheVariants.{Ascii, BinaryLittle, BinaryBig}
use Rattle.ply_head.specs.declared.header.Endian.{Endian}
use Rattle.ply_head.specs.declared.header.Endian.TheVariants.{Little, Big}
use Rattle.ply_head.specs.declared.header.Shape.{Shape}
use Rattle.ply_head.specs.declared.header.Property.{Property}
use Rattle.ply_head.specs.Answers.{◌>>=◌}
use Rattle.ply_rows.specs.declared.place.Field.{Field}
use Rattle.ply_rows.specs.declared.place.Place.{Place}
use Rattle.ply_rows.specs.declared.refusal.RowRefusal.{RowRefusal}
use Rattle.ply_rows.specs.Tokens.{Token, tokens_at}
use Rattle.ply_rows.specs.Texts.{text_field}
use Rattle.ply_rows.specs.Binaries.{binary_field}

-- the rest of a body: tokens, or, in a binary body, the bytes from an offset on, with their order
pub data Rest : Type 0 where
  text : List Token → Rest
  raw : Endian → ℕ → List ℕ → Rest

-- the rest of a body from an offset on
abbrev pub rest_at : Kind → List ℕ → ℕ → Rest
rest_at Ascii body place = text (tokens_at body place)
rest_at BinaryLittle body place = raw Little place (drop place body)
rest_at BinaryBig body place = raw Big place (drop place body)

-- the field of a property, and the rest after it
unfoldable pub field_of : Place → Shape → Rest → Result (Field × Rest) RowRefusal
field_of at shape (text tokens) = text_field at shape tokens >>= λ read. Ok (read.0, text read.1)
field_of at shape (raw order place bytes) =
    binary_field order at shape (place, bytes) >>= λ read. Ok (read.0, raw order read.1.0 read.1.1)

-- the fields of some properties of a row, counted from this number on, and the rest after them
unfoldable pub fields_of : ℕ → ℕ → ℕ → List Property → Rest → Result (List Field × Rest) RowRefusal
fields_of element row number [] rest = Ok ([], rest)
fields_of element row number (property ∷ properties) rest = do
  first ← field_of (record { element = element; row = row; property = number }) property.shape rest
  others ← fields_of element row (number + 1) properties first.1
  Ok (first.0 ∷ others.0, others.1)
