-- Faces in an order.
--
--   Covers n numbers      each number below n is listed, and no other
--   face_number ranked    the number of a face with a key
--   AreInOrder points faces numbers ordered tree   the ordered faces have the numbers, which are all, and the tree has a box
--                         of each
use Rattle.std.specs.Prelude.{ℕ, ◌≡◌, ◌<◌, List, length, map, All, Contains}
use Rattle.geo_sign.specs.Point.{Point}
use Rattle.triangles.specs.declared.tree.HullTree.{HullTree}
use Rattle.mesh_edges.specs.Edges.{face_at}
use Rattle.mesh_flips.specs.Fields.{IsReady}
use Rattle.mesh_flips.specs.declared.order.Ranked.{Ranked}

-- each number below n is listed, and no other
pub record Covers (n : ℕ) (numbers : List ℕ) : Type 0 where
  pub below : All (λ i. i < n) numbers
  pub all : (i : ℕ) → i < n → Contains numbers i

-- the number of a face with a key
abbrev pub face_number : Ranked → ℕ
face_number ranked = ranked.number

-- the ordered faces have the numbers, which are all, and the tree has a box of each
pub record AreInOrder (points : List Point) (faces : List (List ℕ)) (numbers : List ℕ) (ordered : List (List ℕ)) (tree : HullTree) : Type 0 where
  pub covers : Covers (length faces) numbers
  pub by_number : ordered ≡ map (face_at faces) numbers
  pub ready : IsReady points ordered tree
