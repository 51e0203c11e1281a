-- Sets of faces or corners, merged where sides have one edge.
--
--   part_of part s, part_at part sides i     the face of a side, or the corner at one of its ends
--   AreOfOneEdge part sides x y              x and y are the parts (faces, or corners at one end) of two sides with one
--                                            edge
--   AreConnectedBy part sides parents x y    x and y were together, or are `AreOfOneEdge`
--   IsMergedBy part sides old new            numbers are together in `new` exactly if steps of `AreConnectedBy` in
--                                            `old` lead from one to the other
--   AreCornerSets faces parents              corners are together exactly if `AreNeighbors` steps connect them
--   ArePieceSets faces parents               faces are together exactly if adjacent faces connect them
use Rattle.std.specs.Prelude.{ℕ, ◌≡◌, ◌*◌, ◌/◌, ◌<◌, ◌⊎◌, List, length, map, slice_index}
use Rattle.mesh_edges.specs.Sets.{AreTogether}
use Rattle.mesh_edges.specs.Paths.{ArePath}
use Rattle.mesh_measures.specs.Corners.{AreNeighbors}
use Rattle.mesh_measures.specs.Pieces.{AreAdjacent}
use Rattle.mesh_measures.specs.Sides.{key_at}
use Rattle.mesh_measures.specs.declared.merges.Part.{Part}
use Rattle.mesh_measures.specs.declared.merges.Part.TheVariants.{Face, Low, High}
use Rattle.mesh_measures.specs.declared.sides.Side.{Side}

-- the face of a side, or the corner at one of its ends
abbrev pub part_of : Part → Side → ℕ
part_of Face s = s.low / 3
part_of Low s = s.low
part_of High s = s.high

abbrev pub part_at : Part → List Side → ℕ → ℕ
part_at part sides i = slice_index (map (part_of part) sides) i

-- the parts of two sides with one edge
pub record AreOfOneEdge (part : Part) (sides : List Side) (x y : ℕ) : Type 0 where
  pub i : ℕ
  pub j : ℕ
  pub one : i < length sides
  pub other : j < length sides
  pub edge : key_at sides i ≡ key_at sides j
  pub from : x ≡ part_at part sides i
  pub to : y ≡ part_at part sides j

-- they were together, or are these
abbrev pub AreConnectedBy : Part → List Side → List ℕ → (x y : ℕ) → Type 0
AreConnectedBy part sides parents x y = AreTogether parents x y ⊎ AreOfOneEdge part sides x y

-- they are together now where links connect them
pub record IsMergedBy (part : Part) (sides : List Side) (old new : List ℕ) : Type 0 where
  pub count : length new ≡ length old
  pub kept : (x y : ℕ) → AreConnectedBy part sides old x y → AreTogether new x y
  pub only : (x y : ℕ) → AreTogether new x y → ArePath (AreConnectedBy part sides old) x y

-- corners are together where neighbors connect them
pub record AreCornerSets (faces : List (List ℕ)) (parents : List ℕ) : Type 0 where
  pub count : length parents ≡ 3 * length faces
  pub kept : (c d : ℕ) → c < length parents → ArePath (AreNeighbors faces) c d → AreTogether parents c d
  pub only : (c d : ℕ) → AreTogether parents c d → ArePath (AreNeighbors faces) c d

-- faces are together where adjacent faces connect them
pub record ArePieceSets (faces : List (List ℕ)) (parents : List ℕ) : Type 0 where
  pub count : length parents ≡ length faces
  pub kept : (f g : ℕ) → f < length parents → ArePath (AreAdjacent faces) f g → AreTogether parents f g
  pub only : (f g : ℕ) → AreTogether parents f g → ArePath (AreAdjacent faces) f g
