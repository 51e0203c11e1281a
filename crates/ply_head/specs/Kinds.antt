-- How a body encodes its values, by the kind that the header states.
--
--   endian_of   the order of the bytes of a number, in a binary body
--   IsBinary    a kind of binary bodies
use Rattle.std.specs.Prelude.{Option, Some, None}
use Rattle.ply_head.specs.declared.header.Kind.{Kind}
use Rattle.ply_head.specs.declared.header.Kind.TheVariants.{Ascii, BinaryLittle, BinaryBig}
use Rattle.ply_head.specs.declared.header.Endian.{Endian}
use Rattle.ply_head.specs.declared.header.Endian.TheVariants.{Little, Big}

-- the byte order of a binary body; a text has none
abbrev pub endian_of : Kind → Option Endian
endian_of Ascii = None
endian_of BinaryLittle = Some Little
endian_of BinaryBig = Some Big

-- a kind of binary bodies
abbrev pub IsBinary : Kind → Type 0
IsBinary Ascii = ⊥
IsBinary kind = Unit {0}
