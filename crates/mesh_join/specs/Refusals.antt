-- Why tiles are not joined.
--
--   IsFlatFace points f           two vertices of f are at one place
--   IsFlatMesh mesh               a face of the mesh is flat
--   IsFlatTile meshes tile        that of the tile with this number
--   LacksPlace places points      a point is at none of these places
--   IsPlaceOf meshes p            a mesh has a vertex at p
--   ArePlacesOf meshes places     the places of all vertices, ascending, each once
--   HasTooManyPlaces meshes       there are 4,294,967,296 of them or more
--   StaysOpen o lists edge        a join stays open: without filled faces, and with some, where this is the first edge that
--                                 is not balanced
--   IsOpenJoin cores meshes edge  a join of the meshes does so
--   IsRefusedJoin cores meshes why   the tiles are not joined for this reason
use Rattle.std.specs.Prelude.{ℕ, ◌≡◌, ◌<◌, ◌≤◌, ◌^◌, ◌⊎◌, List, [], ◌∷◌, length, slice_index_or, Contains}
use Rattle.geo_sign.specs.Point.{Point}
use Rattle.mesh.specs.Meshes.{point_at}
use Rattle.mesh.specs.declared.mesh.Mesh.{Mesh}
use Rattle.mesh_edges.specs.Edges.{IsBalanced, IsFirstUnbalanced}
use Rattle.mesh_edges.specs.declared.balance.UnbalancedEdge.{UnbalancedEdge}
use Rattle.mesh_join.specs.Joins.{AreListsOf, ArePlacesRising, IsMeshOfJoin}
use Rattle.mesh_join.specs.declared.join.Refusal.{Refusal}
use Rattle.mesh_join.specs.declared.join.Refusal.TheVariants as why
use Rattle.mesh_join.specs.declared.owners.Core.{Core}
use Rattle.mesh_join.specs.declared.owners.Owners.{Owners}

-- two of the vertices are at one place
abbrev pub IsFlatFace : List Point → List ℕ → Type 0
IsFlatFace points (a ∷ b ∷ c ∷ []) =
    (point_at points a ≡ point_at points b) ⊎ ((point_at points b ≡ point_at points c) ⊎ (point_at points c ≡ point_at points a))
IsFlatFace points _ = ⊥

-- a face of the mesh is flat
abbrev pub IsFlatMesh : Mesh → Type 0
IsFlatMesh mesh = (f : List ℕ) × Contains mesh.faces.items f × IsFlatFace mesh.points.items f

-- a face of the mesh of the tile with this number is flat
abbrev pub IsFlatTile : List Mesh → (tile : ℕ) → Type 0
IsFlatTile meshes tile = (tile < length meshes) × ((m : Mesh) → IsFlatMesh (slice_index_or meshes tile m))

-- a point is at none of these places
abbrev pub LacksPlace : (places points : List Point) → Type 0
LacksPlace places points = (p : Point) × Contains points p × (¬ Contains places p)

-- a mesh has a vertex at this place
abbrev pub IsPlaceOf : List Mesh → Point → Type 0
IsPlaceOf meshes p = (m : Mesh) × Contains meshes m × Contains m.points.items p

-- the places of all vertices, each once
pub record ArePlacesOf (meshes : List Mesh) (places : List Point) : Type 0 where
  pub rising : ArePlacesRising places
  pub has : (p : Point) → IsPlaceOf meshes p → Contains places p
  pub only : (p : Point) → Contains places p → IsPlaceOf meshes p

-- these are 4,294,967,296 or more
abbrev pub HasTooManyPlaces : List Mesh → Type 0
HasTooManyPlaces meshes = (places : List Point) × ArePlacesOf meshes places × (2 ^ 32 ≤ length places)

-- The owners' join is not closed, and with these filled faces it is not closed either: the edge is the first unbalanced one.
pub record StaysOpen (o : Owners) (lists : List (List (List ℕ))) (edge : UnbalancedEdge) : Type 0 where
  pub unclosed : (points : List Point) × (faces : List (List ℕ)) × IsMeshOfJoin o lists [] points faces × (¬ IsBalanced faces)
  pub filling : List (List ℕ)
  pub points : List Point
  pub faces : List (List ℕ)
  pub join : IsMeshOfJoin o lists filling points faces
  pub first : IsFirstUnbalanced faces edge.from edge.to edge.there edge.back

-- a join of the meshes stays open
pub record IsOpenJoin (cores : List Core) (meshes : List Mesh) (edge : UnbalancedEdge) : Type 0 where
  pub owners : Owners
  pub lists : List (List (List ℕ))
  pub same_cores : owners.cores.items ≡ cores
  pub are_lists : AreListsOf owners.places.items meshes lists
  pub stays : StaysOpen owners lists edge

-- why the tiles are not joined
abbrev pub IsRefusedJoin : List Core → List Mesh → Refusal → Type 0
IsRefusedJoin cores meshes why.TooMany = HasTooManyPlaces meshes
IsRefusedJoin cores meshes (why.Flat tile) = IsFlatTile meshes tile
IsRefusedJoin cores meshes (why.Open edge) = IsOpenJoin cores meshes edge
