-- The joined mesh of tiles: each edge takes the faces of the tile that owns it.
--
--   is_between low high a b    2 low <= a + b < 2 high
--   holds_middle core p q      the middle of p and q lies in a core
--   unordered_key u v          the number of an edge among places, whichever of its ends comes first
--   owns o i u v               whether tile i owns the edge of the places u and v: the tile that it was moved to, else the
--                              one whose core holds its middle
--   lists_of tiles, faces_of lists i   the faces of each tile, and of tile i, by numbers of places
--   IsOwnerWith o lists f u v i   tile i owns the edge and has the face f
--   HasOwnerWith o lists f u v    some tile owns the edge and has the face f
--   IsJoined o lists f         of each edge of f, a tile that owns it has f
--   OwnsFirst o i f            tile i owns the first edge of f
--   AreTiles o lists           one list a core, each of faces in the order of numbers
--   IsJoin o lists filling faces   ascending: exactly the joined faces and those of the list `filling`
--   IsPlaceBefore p q          p is smaller at the first coordinate in which they differ
--   ArePlacesRising places     each place is before the next
--   turned_face a b c          the face of three places, the smallest number first
--   face_at_places numbers f   a tile's face by numbers of places
--   IsNumbered places points faces list   the list has exactly the tile's faces, by numbers of places
--   AreMeshesNumbered places meshes lists   each mesh with its list
--   IsMeshOfJoin o lists filling points faces   a mesh whose faces are a join
--   IsClosedJoin o lists filling points faces   a closed one
--   AreListsOf places meshes lists   fewer than 2^32 places, ascending, and the faces of meshes by their numbers, sorted
--   IsJoining cores meshes points faces moved filled   a closed mesh whose faces are a join of the meshes, with the numbers
--                              of moved edges and of filled faces
use Rattle.std.specs.Prelude.{ℕ, ◌≡◌, ◌+◌, ◌<◌, ◌^◌, ◌==◌, ◌&&◌, ◌⊎◌, ◌↔◌, Bool, true, Option, Some, None, nat_eq, nat_lt}
use Rattle.std.specs.Prelude.{min, max, if◌then◌else◌, ℤ, pos, ◌+ℤ◌, ◌*ℤ◌, ◌<ℤ◌, int_le, int_lt, List, [], ◌∷◌, length, map}
use Rattle.std.specs.Prelude.{slice_index, slice_index_or, All, AllPairs, Contains}
use Rattle.std.specs.Cmp.Lexicographic.{slice_cmp}
use Rattle.std.specs.HashMap.{get, hash_map_len}
use Rattle.std.specs.List.Sorted.{IsSorted}
use Rattle.std.specs.Ordering.{nat_cmp}
use Rattle.geo_sign.specs.Point.{Point, origin}
use Rattle.geo_sign.specs.Rising.{IsBefore}
use Rattle.mesh.specs.Meshes.{point_at, mesh_of, IsFace}
use Rattle.mesh.specs.declared.mesh.Mesh.{Mesh}
use Rattle.mesh_edges.specs.Edges.{IsBalanced}
use Rattle.mesh_edges.specs.Pairs.{key_of}
use Rattle.mesh_join.specs.declared.owners.Core.{Core}
use Rattle.mesh_join.specs.declared.owners.Owners.{Owners}
use Rattle.mesh_join.specs.declared.held.Tile.{Tile}

-- twice the lower bound is at most the sum, and the sum below twice the upper one
unfoldable pub is_between : (low high a b : ℤ) → Bool
is_between low high a b = int_le (pos 2 *ℤ low) (a +ℤ b) && int_lt (a +ℤ b) (pos 2 *ℤ high)

-- the middle of two points lies in the core
abbrev pub holds_middle : Core → Point → Point → Bool
holds_middle core p q =
    is_between core.low.x core.high.x p.x q.x
    && (is_between core.low.y core.high.y p.y q.y && is_between core.low.z core.high.z p.z q.z)

-- one number for both directions of an edge
abbrev pub unordered_key : (u v : ℕ) → ℕ
unordered_key u v = key_of (min u v) (max u v)

-- the tile that an edge was moved to, or else the one at home
abbrev pub is_owner : Option ℕ → ℕ → Bool → Bool
is_owner (Some t) i home = t == i
is_owner None i home = home

-- a core that holds nothing
abbrev pub no_core : Core
no_core = record { low = origin; high = origin }

-- whether tile i owns the edge of the places u and v
abbrev pub owns : Owners → (i u v : ℕ) → Bool
owns o i u v =
    is_owner (get nat_eq o.moved (unordered_key u v)) i
    (holds_middle (slice_index_or o.cores.items i no_core) (point_at o.places.items u) (point_at o.places.items v))

-- the faces of each tile
abbrev pub lists_of : List Tile → List (List (List ℕ))
lists_of tiles = map (λ (t : Tile). t.faces.items) tiles

-- the faces of tile i
abbrev pub faces_of : List (List (List ℕ)) → ℕ → List (List ℕ)
faces_of lists i = slice_index_or lists i []

-- tile i owns the edge and has the face
abbrev pub IsOwnerWith : Owners → List (List (List ℕ)) → List ℕ → (u v i : ℕ) → Type 0
IsOwnerWith o lists f u v i = (owns o i u v ≡ true) × Contains (faces_of lists i) f

-- some tile owns the edge and has the face
abbrev pub HasOwnerWith : Owners → List (List (List ℕ)) → List ℕ → (u v : ℕ) → Type 0
HasOwnerWith o lists f u v = (i : ℕ) × (i < length lists) × IsOwnerWith o lists f u v i

-- of each of the face's edges an owner has it
abbrev pub IsJoined : Owners → List (List (List ℕ)) → List ℕ → Type 0
IsJoined o lists (a ∷ b ∷ c ∷ []) =
    let f : List ℕ = a ∷ b ∷ c ∷ [] in
    HasOwnerWith o lists f a b × HasOwnerWith o lists f b c × HasOwnerWith o lists f c a
IsJoined o lists _ = ⊥

-- tile i owns the first edge of the face
abbrev pub OwnsFirst : Owners → ℕ → List ℕ → Type 0
OwnsFirst o i (a ∷ b ∷ c ∷ []) = owns o i a b ≡ true
OwnsFirst o i _ = ⊥

-- one list a core, each sorted, of faces among the places
pub record AreTiles (o : Owners) (lists : List (List (List ℕ))) : Type 0 where
  pub cores : length lists ≡ length o.cores.items
  pub sorted : All (IsSorted (slice_cmp nat_cmp)) lists
  pub valid : All (All (IsFace (length o.places.items))) lists

-- exactly the joined faces and the filled ones, in ascending order
pub record IsJoin (o : Owners) (lists : List (List (List ℕ))) (filling faces : List (List ℕ)) : Type 0 where
  pub rising : AllPairs IsBefore faces
  pub has_joined : (f : List ℕ) → IsJoined o lists f → Contains faces f
  pub has_filled : (f : List ℕ) → Contains filling f → Contains faces f
  pub only : (f : List ℕ) → Contains faces f → IsJoined o lists f ⊎ Contains filling f

-- p is smaller at the first coordinate in which they differ
abbrev pub IsPlaceBefore : Point → Point → Type 0
IsPlaceBefore p q = (p.x <ℤ q.x) ⊎ ((p.x ≡ q.x) × ((p.y <ℤ q.y) ⊎ ((p.y ≡ q.y) × (p.z <ℤ q.z))))

-- each place is before the next, so no place is there twice
abbrev pub ArePlacesRising : List Point → Type 0
ArePlacesRising places = (k : ℕ) → k + 1 < length places → IsPlaceBefore (point_at places k) (point_at places (k + 1))

-- the smallest number first
abbrev pub turned_face : (a b c : ℕ) → List ℕ
turned_face a b c =
    if nat_lt a b && nat_lt a c then a ∷ b ∷ c ∷ [] else (if nat_lt b a && nat_lt b c then b ∷ c ∷ a ∷ [] else c ∷ a ∷ b ∷ [])

-- the places of a face's vertices, the smallest number first
abbrev pub face_at_places : List ℕ → List ℕ → List ℕ
face_at_places numbers (a ∷ b ∷ c ∷ []) = turned_face (slice_index numbers a) (slice_index numbers b) (slice_index numbers c)
face_at_places numbers _ = []

-- each vertex stands at the place with its number, and the list has exactly the faces
pub record IsNumbered (places points : List Point) (faces list : List (List ℕ)) : Type 0 where
  pub numbers : List ℕ
  pub within : All (λ n. n < length places) numbers
  pub at : points ≡ map (point_at places) numbers
  pub same : (f : List ℕ) → Contains list f ↔ Contains (map (face_at_places numbers) faces) f

-- each mesh with its list of faces
abbrev pub AreMeshesNumbered : List Point → List Mesh → List (List (List ℕ)) → Type 0
AreMeshesNumbered places meshes lists =
    (i : ℕ) (m : Mesh) → i < length meshes
    → IsNumbered places (slice_index_or meshes i m).points.items (slice_index_or meshes i m).faces.items (faces_of lists i)

-- a mesh that is a join of the lists, each place with a face numbered anew
pub record IsMeshOfJoin (o : Owners) (lists : List (List (List ℕ))) (filling : List (List ℕ)) (points : List Point)
    (faces : List (List ℕ)) : Type 0 where
  pub facets : List (List ℕ)
  pub is_join : IsJoin o lists filling facets
  pub same_points : points ≡ (mesh_of o.places.items facets).points
  pub same_faces : faces ≡ (mesh_of o.places.items facets).faces

-- the mesh of a join, and it is closed
pub record IsClosedJoin (o : Owners) (lists : List (List (List ℕ))) (filling : List (List ℕ)) (points : List Point)
    (faces : List (List ℕ)) : Type 0 where
  pub join : IsMeshOfJoin o lists filling points faces
  pub balanced : IsBalanced faces

-- the places rise, and the lists are the meshes by numbers of them
pub record AreListsOf (places : List Point) (meshes : List Mesh) (lists : List (List (List ℕ))) : Type 0 where
  pub few : length places < 2 ^ 32
  pub rising : ArePlacesRising places
  pub count : length lists ≡ length meshes
  pub numbered : AreMeshesNumbered places meshes lists
  pub sorted : All (IsSorted (slice_cmp nat_cmp)) lists
  pub valid : All (All (IsFace (length places))) lists

-- a closed mesh that is a join of the meshes
pub record IsJoining (cores : List Core) (meshes : List Mesh) (points : List Point) (faces : List (List ℕ)) (moved filled : ℕ)
    : Type 0 where
  pub owners : Owners
  pub lists : List (List (List ℕ))
  pub filling : List (List ℕ)
  pub same_cores : owners.cores.items ≡ cores
  pub are_lists : AreListsOf owners.places.items meshes lists
  pub closed : IsClosedJoin owners lists filling points faces
  pub moved_is : moved ≡ hash_map_len owners.moved
  pub filled_is : filled ≡ length filling
