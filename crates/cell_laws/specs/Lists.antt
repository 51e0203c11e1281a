-- Cells that stand in a list of names: x stands for the cell with the vertices cell x. A store's names are ids.
--
--   IsIn xs x                         x is in the list
--   AreCells v live cell              each name stands for a cell
--   IsFull, IsListing                 the names stand for all cells; and for each once
--   IsClosedInConflict v p live cell marked
--                                     if a marked cell is in conflict, each adjacent cell in conflict is marked too
--   count f xs                        how many elements of a list pass a test
use Rattle.std.specs.Prelude.{[], ℕ, ◌≡◌, ◌⊎◌, ◌+◌, Bool, true, List, ◌∷◌}
use Rattle.geo_sign.specs.Tetrahedron.{Tetrahedron, tetrahedron}
use Rattle.geo_sign.specs.Vertices.{Vertices}
use Rattle.geo_sign.specs.Cells.{IsCell}
use Rattle.geo_sign.specs.Edges.{one_if}
use Rattle.geo_sign.specs.Writings.{IsRewritten}
use Rattle.geo_sign.specs.Boxes.{IsInConflict}

abbrev pub IsIn : {X : Type 0} → List X → X → Type 0
IsIn [] t = ⊥
IsIn (x ∷ xs) t = (x ≡ t) ⊎ IsIn xs t

abbrev pub AreCells : {X : Type 0} (v : Vertices) (live : List X) (cell : X → Tetrahedron) → Type 0
AreCells {X} v live cell = (x : X) → IsIn live x → IsCell v (cell x).a (cell x).b (cell x).c (cell x).d

pub record IsFull {X : Type 0} (v : Vertices) (live : List X) (cell : X → Tetrahedron) : Type 0 where
  pub cells : AreCells v live cell
  pub all : (a b c d : ℕ) → IsCell v a b c d → (x : X) × IsIn live x × IsRewritten (cell x) (tetrahedron a b c d)

pub record IsListing {X : Type 0} (v : Vertices) (live : List X) (cell : X → Tetrahedron) : Type 0 where
  pub full : IsFull v live cell
  pub once : (x y : X) → IsIn live x → IsIn live y → IsRewritten (cell x) (cell y) → x ≡ y

-- from each that is marked, each adjacent one in conflict is marked
abbrev pub IsClosedInConflict : {X : Type 0} (v : Vertices) (p : ℕ) (live : List X) (cell : X → Tetrahedron) → (X → Bool) → Type 0
IsClosedInConflict {X} v p live cell marked =
    (x y : X) (a b c d e : ℕ) → IsIn live x → IsIn live y → marked x ≡ true → IsInConflict v p (cell x) →
    IsInConflict v p (cell y) → IsRewritten (cell x) (tetrahedron a b c d) → IsRewritten (cell y) (tetrahedron a c b e) →
    marked y ≡ true

abbrev pub count : {X : Type 0} → (X → Bool) → List X → ℕ
count f [] = 0
count f (x ∷ xs) = one_if (f x) + count f xs
