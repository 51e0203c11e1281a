-- Vertices that are marked while sides and corners are passed.
--
--   IsFlagged P flags             exactly the numbers with P have their flag set
--   IsEndOfOdd faces sides n v    v is at an end of one of the first n sides for which `IsOddSide` holds
--   HasCorner faces n v           one of the first n corners is at v
--   HasSecond faces parents n v   one of the first n corners is at v, the first of its set, and not the first at v
--   IsSuspect faces sides parents v
--                                 `IsEndOfOdd` with n as the number of all sides, or `HasSecond` with n as the number
--                                 of all corners
use Rattle.std.specs.Prelude.{ℕ, ◌≡◌, ◌*◌, ◌<◌, ◌⊎◌, Bool, true, false, List, length, slice_index_or}
use Rattle.mesh_edges.specs.HalfEdges.{start}
use Rattle.mesh_edges.specs.Sets.{IsFirstOfSet}
use Rattle.mesh_measures.specs.Merges.{part_at}
use Rattle.mesh_measures.specs.Sides.{IsOddSide}
use Rattle.mesh_measures.specs.declared.merges.Part.TheVariants.{Low, High}
use Rattle.mesh_measures.specs.declared.sides.Side.{Side}

-- exactly the numbers with P have a flag that is set
pub record IsFlagged (P : ℕ → Type 0) (flags : List Bool) : Type 0 where
  pub yes : (v : ℕ) → v < length flags → slice_index_or flags v false ≡ true → P v
  pub no : (v : ℕ) → v < length flags → P v → slice_index_or flags v false ≡ true

-- an end of one of the first n sides that is odd
pub record IsEndOfOdd (faces : List (List ℕ)) (sides : List Side) (n v : ℕ) : Type 0 where
  pub i : ℕ
  pub below : i < n
  pub odd : IsOddSide sides i
  pub at : (start faces (part_at Low sides i) ≡ v) ⊎ (start faces (part_at High sides i) ≡ v)

-- one of the first n corners is at v
abbrev pub HasCorner : List (List ℕ) → (n v : ℕ) → Type 0
HasCorner faces n v = (c : ℕ) × (c < n) × (start faces c ≡ v)

-- one of the first n corners is at v, the first of its set, and not the first at v
pub record HasSecond (faces : List (List ℕ)) (parents : List ℕ) (n v : ℕ) : Type 0 where
  pub c : ℕ
  pub d : ℕ
  pub below : c < n
  pub before : d < c
  pub at : start faces c ≡ v
  pub also : start faces d ≡ v
  pub first : IsFirstOfSet parents c

-- one of the two
abbrev pub IsSuspect : List (List ℕ) → List Side → List ℕ → ℕ → Type 0
IsSuspect faces sides parents v =
    IsEndOfOdd faces sides (length sides) v ⊎ HasSecond faces parents (3 * length faces) v
