-- The texts of OFF and of Wavefront OBJ, each line ended by a line feed. For PLY see `mesh_text`.
--
--   off_head, off_rest, v_word, f_word
--                           the first line of an OFF text, and the end of its second line; the prefixes of the lines of
--                           points and of faces in an OBJ text
--   off_counts n m          the line `n m 0`
--   off_text points faces   OFF: its name, the counts, a line for each point, a line `3 a b c` for each face
--   obj_vertex_line p       `v x y z`
--   triangle_line f         `f a b c`, each number increased by one, since OBJ counts from 1
--   obj_text points faces   OBJ: the lines of the points and then of the faces
use Rattle.std.specs.Prelude.{ℕ, ◌+◌, List, ◌++◌, length, codes, map}
use Rattle.std.specs.List.{flat_map}
use Rattle.geo_sign.specs.Point.{Point}
use Rattle.line_text.specs.Numbers.{space, line_feed, ended}
use Rattle.line_text.specs.Facets.{facet_fields}
use Rattle.mesh_ply.specs.Texts.{point_line, face_line}

unfoldable pub off_head : List ℕ
off_head = codes "OFF\n"

-- no edges are counted
unfoldable pub off_rest : List ℕ
off_rest = codes "0\n"

unfoldable pub v_word : List ℕ
v_word = codes "v "

unfoldable pub f_word : List ℕ
f_word = codes "f "

-- n m 0
abbrev pub off_counts : (n m : ℕ) → List ℕ
off_counts n m = ended n space ++ (ended m space ++ off_rest)

-- the name, the counts, a line for each point, a line for each face
abbrev pub off_text : List Point → List (List ℕ) → List ℕ
off_text points faces =
    off_head ++ (off_counts (length points) (length faces) ++ (flat_map point_line points ++ flat_map face_line faces))

-- v x y z
abbrev pub obj_vertex_line : Point → List ℕ
obj_vertex_line p = v_word ++ point_line p

-- f a b c, counted from 1
abbrev pub triangle_line : List ℕ → List ℕ
triangle_line f = f_word ++ facet_fields (map (λ n. n + 1) f) line_feed

-- a line for each point, a line for each face
abbrev pub obj_text : List Point → List (List ℕ) → List ℕ
obj_text points faces = flat_map obj_vertex_line points ++ flat_map triangle_line faces
