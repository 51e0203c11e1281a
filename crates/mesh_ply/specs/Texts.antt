-- The text of a mesh: PLY 1.0 in its `ascii` format, with integer coordinates.
--
--   ply_line, .., header_end          the fixed lines of the header, and the prefixes of its two counts
--   vertex_head, face_head, head_end  the three parts of the header of a mesh: up to the number of points; from there
--                                     up to the number of faces; from there to its end
--   IsCoordinate z                    a coordinate of the box
--   point_line p, face_line f         the line of a point, that of a face
--   mesh_text points faces            the one text of a mesh
--   IsPrinted points faces            a mesh that has a text: valid, with its points in the box
use Rattle.std.specs.Prelude.{ℕ, ◌≤◌, ℤ, unsigned_abs, List, [], ◌∷◌, ◌++◌, All, length, codes}
use Rattle.std.specs.List.{flat_map}
use Rattle.geo_sign.specs.Point.{Point, IsWithin}
use Rattle.line_text.specs.Numbers.{space, line_feed, counted, signed_ended}
use Rattle.line_text.specs.Facets.{facet_fields}
use Rattle.mesh.specs.Meshes.{IsMesh}
use Rattle.geo_sign.specs.declared.point.TheConstants.{BOX_LIMIT}

-- The first line of a mesh file.
unfoldable pub ply_line : List ℕ
ply_line = codes "ply\n"

-- The second line: a text file, PLY 1.0.
unfoldable pub ascii_format_line : List ℕ
ascii_format_line = codes "format ascii 1.0\n"

-- The line that states how many points the mesh has, without the number.
unfoldable pub vertex_word : List ℕ
vertex_word = codes "element vertex "

-- The header line of the x coordinate, a 32-bit integer in scaled units.
unfoldable pub x_line : List ℕ
x_line = codes "property int x\n"

-- The header line of the y coordinate.
unfoldable pub y_line : List ℕ
y_line = codes "property int y\n"

-- The header line of the z coordinate.
unfoldable pub z_line : List ℕ
z_line = codes "property int z\n"

-- The line that states how many faces the mesh has, without the number.
unfoldable pub face_word : List ℕ
face_word = codes "element face "

-- The header line of a face's vertices: a count and as many indices.
unfoldable pub list_line : List ℕ
list_line = codes "property list uchar int vertex_indices\n"

-- The last line of the header.
unfoldable pub header_end : List ℕ
header_end = codes "end_header\n"

-- The header up to the number of points.
abbrev pub vertex_head : List ℕ
vertex_head = ply_line ++ (ascii_format_line ++ vertex_word)

-- The header from there up to the number of faces.
abbrev pub face_head : List ℕ
face_head = x_line ++ (y_line ++ (z_line ++ face_word))

-- The rest of the header.
abbrev pub head_end : List ℕ
head_end = list_line ++ header_end

-- a coordinate of the box
abbrev pub IsCoordinate : ℤ → Type 0
IsCoordinate z = unsigned_abs z ≤ BOX_LIMIT

-- The line of a point: x, y and z.
abbrev pub point_line : Point → List ℕ
point_line p = signed_ended p.x space ++ (signed_ended p.y space ++ signed_ended p.z line_feed)

-- The line of a face: the number 3 (byte 51 is the digit) and three indices.
abbrev pub face_line : List ℕ → List ℕ
face_line f = (51 ∷ space ∷ []) ++ facet_fields f line_feed

-- The whole mesh file: the header, a line for each point, a line for each face, and nothing else.
abbrev pub mesh_text : List Point → List (List ℕ) → List ℕ
mesh_text points faces =
    counted vertex_head (length points)
    ++ (counted face_head (length faces) ++ (head_end ++ (flat_map point_line points ++ flat_map face_line faces)))

-- a valid mesh with its points in the box
pub record IsPrinted (points : List Point) (faces : List (List ℕ)) : Type 0 where
  pub valid : IsMesh points faces
  pub boxed : All (IsWithin BOX_LIMIT) points
