-- The canonical spelling of a header.
--
--   joined          lines one after another, each ended by LF
--   kind_name, scalar_name   the first spelling of a kind and of a type
--   format_text, element_text, property_text   the lines that state them, without their ends
--   shape_text      the part of a `property` line between the first word and the name
--   element_lines   an element's line and those of its properties
--   header_lines    the lines of a header, the first and the last included
--   spelling        the printed header
use Rattle.std.specs.Prelude.{ℕ, List, [], ◌∷◌, ◌++◌, map, codes, decimal}
use Rattle.std.specs.List.{flat_map}
use Rattle.ply_head.specs.declared.header.Kind.{Kind}
use Rattle.ply_head.specs.declared.header.Kind.TheVariants.{Ascii, BinaryLittle, BinaryBig}
use Rattle.ply_head.specs.declared.header.Scalar.{Scalar}
use Rattle.ply_head.specs.declared.header.Scalar.TheVariants.{Char, Uchar, Short, Ushort, Int, Uint, Float, Double}
use Rattle.ply_head.specs.declared.header.Shape.{Shape}
use Rattle.ply_head.specs.declared.header.Shape.TheVariants.{One, Many}
use Rattle.ply_head.specs.declared.header.Property.{Property}
use Rattle.ply_head.specs.declared.header.Element.{Element}
use Rattle.ply_head.specs.declared.header.Header.{Header}

-- Joins lines, each followed by a line feed.
abbrev pub joined : List (List ℕ) → List ℕ
joined [] = []
joined (line ∷ lines) = line ++ 10 ∷ joined lines

-- The name of a format in a header.
abbrev pub kind_name : Kind → List ℕ
kind_name Ascii = codes "ascii"
kind_name BinaryLittle = codes "binary_little_endian"
kind_name BinaryBig = codes "binary_big_endian"

-- The name of a number type in a header.
abbrev pub scalar_name : Scalar → List ℕ
scalar_name Char = codes "char"
scalar_name Uchar = codes "uchar"
scalar_name Short = codes "short"
scalar_name Ushort = codes "ushort"
scalar_name Int = codes "int"
scalar_name Uint = codes "uint"
scalar_name Float = codes "float"
scalar_name Double = codes "double"

-- The header line of the format; byte 32 is a space.
abbrev pub format_text : Kind → List ℕ
format_text kind = codes "format" ++ 32 ∷ (kind_name kind ++ 32 ∷ codes "1.0")

-- The header line of an element: its name and its number of rows.
abbrev pub element_text : List ℕ → ℕ → List ℕ
element_text name count = codes "element" ++ 32 ∷ (name ++ 32 ∷ decimal count)

-- The type of a property as a header line states it.
abbrev pub shape_text : Shape → List ℕ
shape_text (One scalar) = scalar_name scalar
shape_text (Many count item) = codes "list" ++ 32 ∷ (scalar_name count ++ 32 ∷ scalar_name item)

-- The header line of a property: its type and its name.
abbrev pub property_text : Property → List ℕ
property_text p = codes "property" ++ 32 ∷ (shape_text p.shape ++ 32 ∷ p.name)

-- The header lines of an element and of its properties.
abbrev pub element_lines : Element → List (List ℕ)
element_lines element = element_text element.name element.count ∷ map property_text element.properties

-- All header lines between the first and the last.
abbrev pub inner_lines : Header → List (List ℕ)
inner_lines head = format_text head.kind ∷ flat_map element_lines head.elements

-- All header lines, from `ply` to `end_header`.
abbrev pub header_lines : Header → List (List ℕ)
header_lines head = codes "ply" ∷ (inner_lines head ++ codes "end_header" ∷ [])

-- The text of a PLY header.
unfoldable pub spelling : Header → List ℕ
spelling head = joined (header_lines head)
