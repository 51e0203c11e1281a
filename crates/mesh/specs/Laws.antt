-- A theorem of meshes.
--
--   FacetsMakeMeshes     the mesh of a list of faces is valid
use Rattle.std.specs.Prelude.{◌<◌, ◌^◌, ℕ, List, length}
use Rattle.geo_sign.specs.Point.{Point}
use Rattle.mesh.specs.Meshes.{mesh_of, IsFaceList, IsMesh}

-- fewer than 2^32 points and fewer than 2^32 facets, which are a list of faces among these points
abbrev pub FacetsMakeMeshes : Type 0
FacetsMakeMeshes =
    (places : List Point) (facets : List (List ℕ)) → length places < 2 ^ 32 → length facets < 2 ^ 32
    → IsFaceList (length places) facets → IsMesh (mesh_of places facets).points (mesh_of places facets).faces
