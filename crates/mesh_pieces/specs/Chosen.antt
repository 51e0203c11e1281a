-- Pieces by their first faces, and the largest of them.
--
--   AreAcrossSets twins count n parents   sets of faces, merged across the first n half edges
--   AreFirstFaces twins count firsts      the first face of the piece of each face
--   AreSizes firsts sizes n               how many of the first n faces have each face as their first
--   IsPieceKey firsts sizes p, ArePieceKeys firsts sizes n list   pieces with how many faces they lack, among the first n faces
--   piece_in list i                       a piece of a list
--   AreFirstMarked list marks most             the first pieces of a list are marked, at most `most`
use Rattle.std.specs.Prelude.{ℕ, ◌≡◌, ◌+◌, ◌-◌, ◌/◌, ◌<◌, ◌≤◌, ◌⊎◌, Bool, true, false, List, length, slice_index, slice_index_or, All, Contains}
use Rattle.mesh_edges.specs.declared.pairs.Pair.{Pair}
use Rattle.mesh_edges.specs.Sets.{AreTogether}
use Rattle.mesh_edges.specs.Things.{AreSoMany}
use Rattle.mesh_pieces.specs.Pieces.{AreOfOnePiece}

-- sets of faces, merged across the first n half edges
pub record AreAcrossSets (twins : List ℕ) (count n : ℕ) (parents : List ℕ) : Type 0 where
  pub size : length parents ≡ count
  pub merged : (h : ℕ) → h < n → AreTogether parents (h / 3) (slice_index twins h / 3)
  pub only : (f g : ℕ) → AreTogether parents f g → AreOfOnePiece twins f g

-- the first face of the piece of each face
pub record AreFirstFaces (twins : List ℕ) (count : ℕ) (firsts : List ℕ) : Type 0 where
  pub size : length firsts ≡ count
  pub least : (f : ℕ) → f < count → slice_index firsts f ≤ f
  pub own : (f : ℕ) → f < count → slice_index firsts (slice_index firsts f) ≡ slice_index firsts f
  pub one : (f g : ℕ) → f < count → AreOfOnePiece twins f g → slice_index firsts f ≡ slice_index firsts g
  pub path : (f g : ℕ) → f < count → g < count → slice_index firsts f ≡ slice_index firsts g → AreOfOnePiece twins f g

-- how many of the first n faces have each face as their first
pub record AreSizes (firsts sizes : List ℕ) (n : ℕ) : Type 0 where
  pub count : length sizes ≡ length firsts
  pub each : (f : ℕ) → f < length firsts → AreSoMany (λ k. (k < n) × (slice_index firsts k ≡ f)) (slice_index sizes f)
  pub few : (f : ℕ) → f < length firsts → slice_index sizes f ≤ n

-- a piece of a list
abbrev pub piece_in : List Pair → ℕ → Pair
piece_in list i = slice_index_or list i (record { first = 0; second = 0 })

-- its first face, and how many faces are not of it
pub record IsPieceKey (firsts sizes : List ℕ) (p : Pair) : Type 0 where
  pub within : p.second < length firsts
  pub first : slice_index firsts p.second ≡ p.second
  pub lacks : p.first + slice_index sizes p.second ≡ length firsts

-- the pieces that begin among the first n faces
pub record ArePieceKeys (firsts sizes : List ℕ) (n : ℕ) (list : List Pair) : Type 0 where
  pub each : All (IsPieceKey firsts sizes) list
  pub all :
      (f : ℕ) → f < n → slice_index firsts f ≡ f
      → (i : ℕ) × (i < length list) × ((piece_in list i).second ≡ f)

-- The pieces before some index are marked, and no other. There are as many as asked for, or these are all.
pub record AreFirstMarked (list : List Pair) (marks : List Bool) (number most : ℕ) : Type 0 where
  pub cut : ℕ
  pub below : cut ≤ length list
  pub before : (j : ℕ) → j < cut → slice_index_or marks (piece_in list j).second false ≡ true
  pub only : (f : ℕ) → slice_index_or marks f false ≡ true → (j : ℕ) × (j < cut) × ((piece_in list j).second ≡ f)
  pub few : number ≤ most
  pub full : (cut ≡ length list) ⊎ (number ≡ most)
  pub many : AreSoMany (λ f. slice_index_or marks f false ≡ true) number
