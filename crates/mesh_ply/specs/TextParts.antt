-- Parts of the text of a mesh, as they are read one after another.
--
--   text_behind_count points faces    the text of a mesh after its number of points
--   AreLinesOf n m text points faces  these are n points of the box and m faces among them, and the text is their lines
use Rattle.std.specs.Prelude.{ℕ, ◌≡◌, List, ◌++◌, None, length}
use Rattle.std.specs.List.{flat_map}
use Rattle.geo_sign.specs.Point.{Point, IsWithin}
use Rattle.geo_sign.specs.declared.point.TheConstants.{BOX_LIMIT}
use Rattle.line_text.specs.Numbers.{counted}
use Rattle.line_text.specs.Refusals.{AreCountedRows}
use Rattle.mesh.specs.Meshes.{IsFace}
use Rattle.mesh_ply.specs.Texts.{x_line, y_line, z_line, face_word, list_line, header_end, point_line, face_line}

-- the text after the number of points
abbrev pub text_behind_count : List Point → List (List ℕ) → List ℕ
text_behind_count points faces =
    x_line ++ (y_line ++ (z_line
    ++ (counted face_word (length faces)
    ++ (list_line ++ (header_end ++ (flat_map point_line points ++ flat_map face_line faces))))))

-- this number of points of the box and faces among them, whose lines are the text
abbrev pub AreLinesOf : (n m : ℕ) (text : List ℕ) → List Point → List (List ℕ) → Type 0
AreLinesOf n m text points faces =
    AreCountedRows (IsWithin BOX_LIMIT) None n points × AreCountedRows (IsFace n) None m faces
    × (text ≡ flat_map point_line points ++ flat_map face_line faces)
