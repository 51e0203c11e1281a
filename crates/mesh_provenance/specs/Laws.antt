-- Theorems of texts of meshes with their provenance.
--
--   IsFile p points faces      a mesh that has a text, with a valid provenance if it has one
--   TextsTellFiles             no text belongs to two meshes, or to one mesh with two provenances
--   WhereFile text P           P holds of the provenance, points and faces whose text this is
use Rattle.std.specs.Prelude.{ℕ, ◌≡◌, Option, IfSome, List}
use Rattle.geo_sign.specs.Point.{Point}
use Rattle.mesh_ply.specs.Texts.{IsPrinted}
use Rattle.mesh_provenance.specs.Texts.{IsProvenance, file_text}
use Rattle.mesh_provenance.specs.declared.provenance.Provenance.{Provenance}

-- a mesh that has a text, with a valid provenance if it has one
abbrev pub IsFile : Option Provenance → List Point → List (List ℕ) → Type 0
IsFile p points faces = IfSome p IsProvenance × IsPrinted points faces

-- no text belongs to two meshes, or to one with two provenances
abbrev pub TextsTellFiles : Type 0
TextsTellFiles =
    (p q : Option Provenance) (points others : List Point) (faces other_faces : List (List ℕ)) → IsFile p points faces
    → IsFile q others other_faces → file_text p points faces ≡ file_text q others other_faces
    → (p ≡ q) × (points ≡ others) × (faces ≡ other_faces)

-- at most one provenance, list of points and list of faces have this text
abbrev pub WhereFile : (text : List ℕ) → (Option Provenance → List Point → List (List ℕ) → Type 0) → Type 0
WhereFile text P =
    (p : Option Provenance) (points : List Point) (faces : List (List ℕ)) → IsFile p points faces → text ≡ file_text p points faces
    → P p points faces
