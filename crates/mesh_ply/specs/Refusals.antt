-- Why a text is not a mesh: the first error in line order.
--
--   mesh_refusal l        the error l of a line as an error of a mesh: a bad line with its number, at most 2^32 - 1, a
--                         truncated text, or out of memory
--   AtFaces n m k text r  r is the first error of the rest of a mesh's text from line k on, which has to be m faces
--                         among n points, then nothing
--   AtPoints n m text r   r is the first error of the rest of a mesh's text from line 10 on, which has to be n points
--                         of the box, then m faces, then nothing
--   AtFaceCount n text r  r is the first error of the rest of a mesh's text from line 4 on, where n is the number of
--                         points in line 3
--   AtMesh text r         the text is rejected as that of a mesh: r is its first error
--   IsRefusedMesh bytes r   the first error of a text as a mesh, line by line
use Rattle.std.specs.Prelude.{ℕ, ◌≡◌, ◌-◌, ◌^◌, min, None, List}
use Rattle.geo_sign.specs.Point.{IsWithin}
use Rattle.line_text.specs.declared.refusal.LineRefusal.{LineRefusal}
use Rattle.line_text.specs.declared.refusal.LineRefusal.TheVariants as lines
use Rattle.line_text.specs.Refusals.{line_after, AtWord, AtNumber, AtRows, IsBehindEnd}
use Rattle.mesh_ply.specs.declared.refusal.MeshRefusal.{MeshRefusal}
use Rattle.mesh_ply.specs.declared.refusal.MeshRefusal.TheVariants.{BadLine, MeshCut, NoMemory}
use Rattle.mesh.specs.Meshes.{IsFace}
use Rattle.mesh_ply.specs.Texts.{ply_line, ascii_format_line, vertex_word, x_line, y_line, z_line, face_word, list_line, header_end}
use Rattle.mesh_ply.specs.Texts.{point_line, face_line}
use Rattle.geo_sign.specs.declared.point.TheConstants.{BOX_LIMIT}

-- The error of a line as one of a mesh: a line number stops at the maximum of 32 bits. No list of a mesh has an order, so none
-- is rejected for it.
abbrev pub mesh_refusal : LineRefusal → MeshRefusal
mesh_refusal (lines.BadLine n) = BadLine (min n (2 ^ 32 - 1))
mesh_refusal (lines.Order n) = BadLine (min n (2 ^ 32 - 1))
mesh_refusal lines.Cut = MeshCut
mesh_refusal lines.NoMemory = NoMemory

-- m faces among n points from line k on, and nothing after them
abbrev pub AtFaces : (n m k : ℕ) → List ℕ → LineRefusal → Type 0
AtFaces n m k text r = AtRows (IsFace n) face_line None m k text r (λ _ rest. IsBehindEnd (line_after k m) rest r)

-- n points from line 10 on, and m faces
abbrev pub AtPoints : (n m : ℕ) → List ℕ → LineRefusal → Type 0
AtPoints n m text r = AtRows (IsWithin BOX_LIMIT) point_line None n 10 text r (λ _ rest. AtFaces n m (line_after 10 n) rest r)

-- the lines 4 to 9 after the number n of points, and the rest
abbrev pub AtFaceCount : ℕ → List ℕ → LineRefusal → Type 0
AtFaceCount n text r =
    AtWord x_line 4 text r (λ a.
    AtWord y_line 5 a r (λ b.
    AtWord z_line 6 b r (λ c.
    AtNumber face_word 0 (2 ^ 32 - 1) 7 c r (λ m d.
    AtWord list_line 8 d r (λ e.
    AtWord header_end 9 e r (λ f.
    AtPoints n m f r))))))

-- the whole text
abbrev pub AtMesh : List ℕ → LineRefusal → Type 0
AtMesh text r =
    AtWord ply_line 1 text r (λ a.
    AtWord ascii_format_line 2 a r (λ b.
    AtNumber vertex_word 0 (2 ^ 32 - 1) 3 b r (λ n c.
    AtFaceCount n c r)))

-- the text is rejected with this error: the first line, in order, that is truncated, invalid, or after the end
abbrev pub IsRefusedMesh : List ℕ → MeshRefusal → Type 0
IsRefusedMesh text r = (l : LineRefusal) × AtMesh text l × (r ≡ mesh_refusal l)
