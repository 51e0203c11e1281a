-- The two headers of printed scans: that of the plain form, with one sight of weight 1 for each row, and that of the wide form,
-- with a weight and any number of sights for each row.
--
--   int_property name     the property of a four-byte integer
--   axis_properties, vertex_properties w
--                         the properties in a printed header: of a scanner, its coordinates; of a vertex row, its
--                         coordinates and `seen_properties`
--   seen_properties w     the part of a vertex row after its coordinates: in the plain form the number of its scanner, in the
--                         wide form its weight and the list of its scanners
--   vertex_element, scanner_element   the elements with this number of rows
--   printed_head w v s    a text's header with v vertex rows and s scanner rows, in the wide form or in the plain one
use Rattle.std.specs.Prelude.{ℕ, Bool, true, false, List, [], ◌∷◌, codes}
use Rattle.ply_head.specs.declared.header.Header.{Header}
use Rattle.ply_head.specs.declared.header.Element.{Element}
use Rattle.ply_head.specs.declared.header.Property.{Property}
use Rattle.ply_head.specs.declared.header.Shape.TheVariants.{One, Many}
use Rattle.ply_head.specs.declared.header.Scalar.TheVariants.{Uchar, Int, Uint}
use Rattle.ply_head.specs.declared.header.Kind.TheVariants.{Ascii}

-- A column of 32-bit integers.
abbrev pub int_property : List ℕ → Property
int_property name = record { name = name; shape = One Int }

-- The column `weight`, a number from 0 to 255.
abbrev pub weight_property : Property
weight_property = record { name = codes "weight"; shape = One Uchar }

-- The column `scanner` as a list of scanner numbers.
abbrev pub list_property : Property
list_property = record { name = codes "scanner"; shape = Many Uint Int }

-- The columns x, y and z.
abbrev pub axis_properties : List Property
axis_properties = int_property (codes "x") ∷ int_property (codes "y") ∷ int_property (codes "z") ∷ []

-- The columns after the coordinates of a point: one scanner number in the plain form; a weight and a list of scanners
-- in the wide form.
abbrev pub seen_properties : Bool → List Property
seen_properties false = int_property (codes "scanner") ∷ []
seen_properties true = weight_property ∷ list_property ∷ []

-- All columns of a point.
abbrev pub vertex_properties : Bool → List Property
vertex_properties wide = int_property (codes "x") ∷ int_property (codes "y") ∷ int_property (codes "z") ∷ seen_properties wide

-- The table of points.
abbrev pub vertex_element : Bool → ℕ → Element
vertex_element wide vertices = record { name = codes "vertex"; count = vertices; properties = vertex_properties wide }

-- The table of scanners.
abbrev pub scanner_element : ℕ → Element
scanner_element scanners = record { name = codes "scanner"; count = scanners; properties = axis_properties }

-- The header of a scan file, in the plain form or in the wide form.
abbrev pub printed_head : Bool → ℕ → ℕ → Header
printed_head wide vertices scanners =
    record { kind = Ascii; elements = vertex_element wide vertices ∷ scanner_element scanners ∷ [] }
