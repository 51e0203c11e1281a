-- The view of a reader of rows, and the invariants of its results.
--
--   Reader         a header, a body, the rows that are left, and how they end
--   NextRow        a call takes the next row. If there is none, or if memory runs out, it says so and leaves the reader
--                  as it was
--   IsInside       a field lies in the body
--   IsSized        a field has the size of its value or its items
--   HasSize        in a binary body, a field has the size of its value or its items
--   HasTokens      a list's field has as many tokens as items from its offset on, in a text
--   IsFieldOf      a field is one of a property
--   AreFieldsOf    fields are those of properties, one for each
--   AreRowFields   the fields of a row that the header has, one for each property
--   EndsInside     a trailing byte lies in the body
use Rattle.std.specs.Prelude.{ℕ, ◌≡◌, ◌≤◌, ◌<◌, ◌+◌, ◌*◌, List, [], length, slice_index_or, Result, Ok, Err, Option, Some, None}
use Rattle.ply_head.specs.declared.header.Header.{Header}
use Rattle.ply_head.specs.declared.header.Element.{Element}
use Rattle.ply_head.specs.declared.header.Property.{Property}
use Rattle.ply_head.specs.declared.header.Kind.{Kind}
use Rattle.ply_head.specs.declared.header.Kind.TheVariants.{Ascii}
use Rattle.ply_head.specs.declared.header.Shape.{Shape}
use Rattle.ply_head.specs.declared.header.Shape.TheVariants.{One, Many}
use Rattle.ply_rows.specs.declared.place.Field.{Field}
use Rattle.ply_rows.specs.declared.place.RowAt.{RowAt}
use Rattle.ply_rows.specs.declared.refusal.RowRefusal.{RowRefusal}
use Rattle.ply_rows.specs.declared.refusal.RowRefusal.TheVariants.{Trailing, NoMemory}
use Rattle.ply_rows.specs.Binaries.{size_of}
use Rattle.ply_rows.specs.Tokens.{tokens_at}
use Rattle.ply_rows.specs.Bodies.{BodyRows, row, ends, refused}

-- the header, the body, and the rows that are left with how they end
pub record Reader : Type 0 where
  pub head : Header
  pub body : List ℕ
  pub left : BodyRows

-- the next of the rows that are left, or how they end; unless a row is returned, the reader is unchanged and there are no
-- fields
abbrev pub NextRow : Result (Option RowAt) RowRefusal → List Field → Reader → Reader → Type 0
NextRow (Ok (Some at)) fields old new = (old.left ≡ row at fields new.left) × (new.body ≡ old.body) × (new.head ≡ old.head)
NextRow (Ok None) fields old new = (old.left ≡ ends) × (new ≡ old) × (fields ≡ [])
NextRow (Err NoMemory) fields old new = (new ≡ old) × (fields ≡ [])
NextRow (Err why) fields old new = (old.left ≡ refused why) × (new ≡ old) × (fields ≡ [])

-- the field is inside the body
abbrev pub IsInside : List ℕ → Field → Type 0
IsInside body field = field.place + field.size ≤ length body

-- the field has the size of its value or its items, in bytes
abbrev pub IsSized : Shape → Field → Type 0
IsSized (One scalar) field = field.size ≡ size_of scalar
IsSized (Many count item) field = field.size ≡ field.items * size_of item

-- in a binary body the field has the size of its value or its items, in bytes
abbrev pub HasSize : Kind → Shape → Field → Type 0
HasSize Ascii shape field = Unit {0}
HasSize kind shape field = IsSized shape field

-- in a text the items of a list are tokens from the field's offset on
abbrev pub HasTokens : Kind → List ℕ → Shape → Field → Type 0
HasTokens Ascii body (Many count item) field = field.items ≤ length (tokens_at body field.place)
HasTokens kind body shape field = Unit {0}

-- the field is one of a property of this shape
pub record IsFieldOf (kind : Kind) (body : List ℕ) (shape : Shape) (field : Field) : Type 0 where
  pub inside : IsInside body field
  pub size : HasSize kind shape field
  pub tokens : HasTokens kind body shape field

-- the fields are those of the properties, one for each, in order
pub record AreFieldsOf (kind : Kind) (body : List ℕ) (properties : List Property) (fields : List Field) : Type 0 where
  pub count : length fields ≡ length properties
  pub each : (number : ℕ) (p : Property) (f : Field) → number < length properties
      → IsFieldOf kind body (slice_index_or properties number p).shape (slice_index_or fields number f)

-- the fields are those of a row that the header has
pub record AreRowFields (head : Header) (body : List ℕ) (at : RowAt) (fields : List Field) : Type 0 where
  pub element : at.element < length head.elements
  pub row : (e : Element) → at.row < (slice_index_or head.elements at.element e).count
  pub fields_are : (e : Element) → AreFieldsOf head.kind body (slice_index_or head.elements at.element e).properties fields

-- a trailing byte is one of the body
abbrev pub EndsInside : {X : Type 0} → List ℕ → Result X RowRefusal → Type 0
EndsInside body (Err (Trailing place)) = place < length body
EndsInside body result = Unit {0}
