-- The values of binary bodies, and their fields by size.
--
--   size_of        the size of a value of a type, in bytes
--   IsWhole        an integer type
--   bits_of        the number with these bytes in a byte order
--   is_signed      a type of signed numbers
--   signed_if      a number of this many bytes, in two's complement if it is signed
--   number_of      the integer with a value's bytes
--   bytes_of       this number of bytes, and those after them
--   list_field     the field of a list
--   binary_field   the field of a property, and the bytes after it
use Rattle.std.specs.Prelude.{ℕ, ◌+◌, ◌*◌, ℤ, pos, List, Bool, true, false, nat_lt, length, take, drop, Result, Ok, Err}
use Rattle.std.specs.Prelude.{if◌then◌else◌}
use Rattle.byteorder.specs.Endian.{big_number, little_number, twos_complement}
use Rattle.ply_head.specs.declared.header.Endian.{Endian}
use Rattle.ply_head.specs.declared.header.Endian.TheVariants.{Little, Big}
use Rattle.ply_head.specs.declared.header.Scalar.{Scalar}
use Rattle.ply_head.specs.declared.header.Scalar.TheVariants.{Char, Uchar, Short, Ushort, Int, Uint, Float, Double}
use Rattle.ply_head.specs.declared.header.Shape.{Shape}
use Rattle.ply_head.specs.declared.header.Shape.TheVariants.{One, Many}
use Rattle.ply_head.specs.Answers.{◌>>=◌}
use Rattle.ply_rows.specs.declared.place.Field.{Field}
use Rattle.ply_rows.specs.declared.place.Place.{Place}
use Rattle.ply_rows.specs.declared.refusal.RowRefusal.{RowRefusal}
use Rattle.ply_rows.specs.declared.refusal.RowRefusal.TheVariants.{Cut}
use Rattle.ply_rows.specs.Texts.{count_in}

-- the size of a value of a type, in bytes
abbrev pub size_of : Scalar → ℕ
size_of Char = 1
size_of Uchar = 1
size_of Short = 2
size_of Ushort = 2
size_of Int = 4
size_of Uint = 4
size_of Float = 4
size_of Double = 8

-- an integer type
abbrev pub IsWhole : Scalar → Type 0
IsWhole Float = ⊥
IsWhole Double = ⊥
IsWhole scalar = Unit {0}

-- the number with the first n bytes, in this order
abbrev pub bits_of : Endian → ℕ → List ℕ → ℕ
bits_of Little n bytes = little_number n bytes
bits_of Big n bytes = big_number n bytes

-- a type of signed numbers
abbrev pub is_signed : Scalar → Bool
is_signed Char = true
is_signed Short = true
is_signed Int = true
is_signed scalar = false

-- a number of n bytes, in two's complement if it is signed
abbrev pub signed_if : Bool → ℕ → ℕ → ℤ
signed_if true n bits = twos_complement n bits
signed_if false n bits = pos bits

-- the integer with a value's bytes
abbrev pub number_of : Endian → Scalar → List ℕ → ℤ
number_of order scalar bytes = signed_if (is_signed scalar) (size_of scalar) (bits_of order (size_of scalar) bytes)

-- this number of bytes, and those after them
abbrev pub bytes_of : Place → ℕ → List ℕ → Result (List ℕ × List ℕ) RowRefusal
bytes_of at n bytes = if nat_lt (length bytes) n then Err (Cut at) else Ok (take n bytes, drop n bytes)

-- the field of a list whose items begin at an offset, if there are any
abbrev pub list_field : ℕ → ℕ → ℕ → Field
list_field place size items = record { place = if nat_lt 0 items then place else 0; size = size; items = items }

-- the field of a property in the bytes from an offset on, and the bytes after it with their offset: the bytes of the value, or
-- those of the count and then those of the items
unfoldable pub binary_field : Endian → Place → Shape → ℕ × List ℕ → Result (Field × (ℕ × List ℕ)) RowRefusal
binary_field order at (One scalar) from = do
  value ← bytes_of at (size_of scalar) from.1
  Ok (record { place = from.0; size = size_of scalar; items = 1 }, (from.0 + size_of scalar, value.1))
binary_field order at (Many count item) from = do
  first ← bytes_of at (size_of count) from.1
  n ← count_in at (number_of order count first.0)
  items ← bytes_of at (n * size_of item) first.1
  Ok (list_field (from.0 + size_of count) (n * size_of item) n, (from.0 + size_of count + n * size_of item, items.1))
