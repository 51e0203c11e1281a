-- Header lines by their tokens, without regard to their position.
--
--   Statement       the content of a line
--   either_word     a token is one of two
--   is_name_byte    a visible ASCII character
--   kind_of, scalar_of   the kind and the type that a word names
--   whole_scalar    a type, if it is an integer type
--   count_of, name_of    the number of rows, and the name, that a word states
--   format_line, element_line, property_line, finish_line   the content of the tokens after the first
--   statement_of_words   the content of a line with these tokens
use Rattle.std.specs.Prelude.{ℕ, List, [], ◌∷◌, Bool, ◌||◌, ◌&&◌, nat_le, length, codes, Option, Some, None, if◌then◌else◌}
use Rattle.std.specs.List.{list_all}
use Rattle.std.specs.Char.{is_ascii_digit}
use Rattle.std.specs.Str.{bytes_eq}
use Rattle.std.specs.Str.Parse.{digits_value}
use Rattle.ply_head.specs.Optional.{◌>>=◌}
use Rattle.ply_head.specs.declared.header.Kind.{Kind}
use Rattle.ply_head.specs.declared.header.Kind.TheVariants.{Ascii, BinaryLittle, BinaryBig}
use Rattle.ply_head.specs.declared.header.Scalar.{Scalar}
use Rattle.ply_head.specs.declared.header.Scalar.TheVariants.{Char, Uchar, Short, Ushort, Int, Uint, Float, Double}
use Rattle.ply_head.specs.declared.header.Shape.{Shape}
use Rattle.ply_head.specs.declared.header.Shape.TheVariants.{One, Many}

-- the token is one of two
abbrev pub either_word : List ℕ → List ℕ → List ℕ → Bool
either_word word one other = bytes_eq word one || bytes_eq word other

-- a visible ASCII character
abbrev pub is_name_byte : ℕ → Bool
is_name_byte b = nat_le 33 b && nat_le b 126

-- the content of a line
pub data Statement : Type 0 where
  nothing : Statement
  format : Kind → Statement
  element : List ℕ → ℕ → Statement
  property : List ℕ → Shape → Statement
  finish : Statement

-- the kind that a word names
unfoldable pub kind_of : List ℕ → Option Kind
kind_of word =
    if bytes_eq word (codes "ascii") then Some Ascii
    else (if bytes_eq word (codes "binary_little_endian") then Some BinaryLittle
    else (if bytes_eq word (codes "binary_big_endian") then Some BinaryBig else None))

-- the type that a word names, by either of its spellings
unfoldable pub scalar_of : List ℕ → Option Scalar
scalar_of word =
    if either_word word (codes "char") (codes "int8") then Some Char
    else (if either_word word (codes "uchar") (codes "uint8") then Some Uchar
    else (if either_word word (codes "short") (codes "int16") then Some Short
    else (if either_word word (codes "ushort") (codes "uint16") then Some Ushort
    else (if either_word word (codes "int") (codes "int32") then Some Int
    else (if either_word word (codes "uint") (codes "uint32") then Some Uint
    else (if either_word word (codes "float") (codes "float32") then Some Float
    else (if either_word word (codes "double") (codes "float64") then Some Double else None)))))))

-- a type, if it is an integer type, as that of a list's count
abbrev pub whole_scalar : Scalar → Option Scalar
whole_scalar Float = None
whole_scalar Double = None
whole_scalar scalar = Some scalar

-- 1 to 10 digits, with a value of 32 bits
unfoldable pub count_of : List ℕ → Option ℕ
count_of word =
    if nat_le 1 (length word)
    && (nat_le (length word) 10 && (list_all is_ascii_digit word && nat_le (digits_value 10 word) 4294967295))
    then Some (digits_value 10 word) else None

-- a word of visible characters, which is a valid name
unfoldable pub name_of : List ℕ → Option (List ℕ)
name_of word = if list_all is_name_byte word then Some word else None

-- `format KIND 1.0`
unfoldable pub format_line : List (List ℕ) → Option Statement
format_line (kind ∷ version ∷ []) = if bytes_eq version (codes "1.0") then (kind_of kind >>= λ k. Some (format k)) else None
format_line words = None

-- `element NAME COUNT`
unfoldable pub element_line : List (List ℕ) → Option Statement
element_line (name ∷ count ∷ []) = do
  name ← name_of name
  count ← count_of count
  Some (element name count)
element_line words = None

-- `property TYPE NAME`, or `property list TYPE TYPE NAME`
unfoldable pub property_line : List (List ℕ) → Option Statement
property_line (type ∷ name ∷ []) = do
  scalar ← scalar_of type
  name ← name_of name
  Some (property name (One scalar))
property_line (list ∷ count ∷ item ∷ name ∷ []) = if bytes_eq list (codes "list") then (do
  count ← scalar_of count
  count ← whole_scalar count
  item ← scalar_of item
  name ← name_of name
  Some (property name (Many count item))) else None
property_line words = None

-- `end_header`
unfoldable pub finish_line : List (List ℕ) → Option Statement
finish_line [] = Some finish
finish_line words = None

-- the content of a line with these tokens, if it is valid
unfoldable pub statement_of_words : List (List ℕ) → Option Statement
statement_of_words [] = Some nothing
statement_of_words (word ∷ words) =
    if either_word word (codes "comment") (codes "obj_info") then Some nothing
    else (if bytes_eq word (codes "format") then format_line words
    else (if bytes_eq word (codes "element") then element_line words
    else (if bytes_eq word (codes "property") then property_line words
    else (if bytes_eq word (codes "end_header") then finish_line words else None))))
