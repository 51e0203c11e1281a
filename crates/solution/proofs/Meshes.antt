-- A mesh by its parts.
use Rattle.std.proofs.Common.{ℕ, ◌≡◌, ◌∙◌, ap, List}
use Rattle.geo_sign.specs.Point.{Point}
use Rattle.mesh.specs.Meshes.{mesh_of}
use Rattle.mesh.specs.declared.mesh.Mesh.{Mesh}
use Rattle.solution.specs.Solutions.{surface_of}

-- the mesh of these points and facets, by its parts
pub mesh_is : (mesh : Mesh) (given points : List Point) (facets : List (List ℕ)) → given ≡ points
    → mesh.points.items ≡ (mesh_of given facets).points → mesh.faces.items ≡ (mesh_of given facets).faces
    → surface_of mesh ≡ mesh_of points facets
mesh_is mesh given points facets same points_are faces_are =
    ap (λ (list : List Point). record { points = list; faces = mesh.faces.items }) points_are
    ∙ ap (λ (faces : List (List ℕ)). record { points = (mesh_of given facets).points; faces = faces }) faces_are
    ∙ ap (λ (list : List Point). mesh_of list facets) same
