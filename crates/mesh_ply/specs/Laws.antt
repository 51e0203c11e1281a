-- Theorems of meshes and their texts.
--
--   TextsTellMeshes      two printed meshes with the same text are equal
--   NoTextIsAFront       the text of one mesh is a prefix of that of another only if they are equal
--   WherePrinted text P  P holds of the points and the faces whose text this is
use Rattle.std.specs.Prelude.{◌≡◌, ◌++◌, [], ℕ, List}
use Rattle.geo_sign.specs.Point.{Point}
use Rattle.mesh_ply.specs.Texts.{mesh_text, IsPrinted}

-- no text belongs to two meshes
abbrev pub TextsTellMeshes : Type 0
TextsTellMeshes =
    (points others : List Point) (faces other_faces : List (List ℕ)) → IsPrinted points faces → IsPrinted others other_faces
    → mesh_text points faces ≡ mesh_text others other_faces → (points ≡ others) × (faces ≡ other_faces)

-- then the rest of the text is empty
abbrev pub NoTextIsAFront : Type 0
NoTextIsAFront =
    (points others : List Point) (faces other_faces : List (List ℕ)) (rest : List ℕ) → IsPrinted points faces
    → IsPrinted others other_faces → mesh_text points faces ++ rest ≡ mesh_text others other_faces → rest ≡ []

-- at most one pair of points and faces has this text
abbrev pub WherePrinted : (text : List ℕ) → (List Point → List (List ℕ) → Type 0) → Type 0
WherePrinted text P = (points : List Point) (faces : List (List ℕ)) → IsPrinted points faces → text ≡ mesh_text points faces → P points faces
