-- The six cells of the box.
--
--   box_rows                      the vertices of the six cells of the box
--   box_across                    which of the six is adjacent to each side of each of them (6: none)
--   box_cell i                    cell i of the six cells of the box, with no neighbors yet
--   across_in ids i k             the number of the neighbor of cell i of the box at side k, if the six cells have the
--                                 numbers `ids`; none on a wall
--   AreBoxCells links ids         the live cells are exactly the six cells of the box, at the numbers `ids`, with the
--                                 neighbors that `box_across` states
--   box_keeper u                  the index of one of the six cells of the box that has the corner u
--   CornerLaw                     if only the corners are inserted, `AreBoxCorners` holds
use Rattle.std.specs.Prelude.{ℕ, ◌≡◌, ◌≢◌, ◌<◌, ◌≤◌, ◌+◌, ◌*◌, ◌==◌, ◌⊎◌, if◌then◌else◌, List, [], ◌∷◌, Option, Some, None}
use Rattle.std.specs.Prelude.{slice_index, slice_index_or}
use Rattle.geo_sign.specs.declared.point.TheConstants.{CORNERS}
use Rattle.geo_sign.specs.Tetrahedron.{Tetrahedron, tetrahedron}
use Rattle.geo_sign.specs.Vertices.{Vertices, Has}
use Rattle.geo_sign.specs.Cells.{IsCell}
use Rattle.geo_sign.specs.Writings.{IsRewritten}
use Rattle.geo_sign.specs.Boxes.{IsBoxed}
use Rattle.tetra_store.specs.declared.link.Cell.{Cell}
use Rattle.tetra_store.specs.Links.{Links, tetrahedron_from, IsLive}

abbrev pub box_rows : List (List ℕ)
box_rows =
    (0 ∷ 1 ∷ 2 ∷ 4 ∷ []) ∷ (1 ∷ 2 ∷ 4 ∷ 3 ∷ []) ∷ (1 ∷ 3 ∷ 4 ∷ 5 ∷ []) ∷ (2 ∷ 3 ∷ 6 ∷ 4 ∷ []) ∷ (3 ∷ 4 ∷ 5 ∷ 6 ∷ [])
    ∷ (3 ∷ 5 ∷ 7 ∷ 6 ∷ []) ∷ []

abbrev pub box_across : List (List ℕ)
box_across =
    (1 ∷ 6 ∷ 6 ∷ 6 ∷ []) ∷ (3 ∷ 2 ∷ 6 ∷ 0 ∷ []) ∷ (4 ∷ 6 ∷ 6 ∷ 1 ∷ []) ∷ (4 ∷ 6 ∷ 1 ∷ 6 ∷ []) ∷ (6 ∷ 5 ∷ 3 ∷ 2 ∷ [])
    ∷ (6 ∷ 6 ∷ 4 ∷ 6 ∷ []) ∷ []

-- for each corner the index of one of the six cells of the box that has it
abbrev pub box_keepers : List ℕ
box_keepers = 0 ∷ 0 ∷ 0 ∷ 1 ∷ 0 ∷ 2 ∷ 3 ∷ 5 ∷ []

-- the four corners of cell i of the box, positively oriented, as a list
abbrev pub box_row : ℕ → List ℕ
box_row i = slice_index_or box_rows i []

-- the same as a tetrahedron
abbrev pub box_tetrahedron : ℕ → Tetrahedron
box_tetrahedron i = tetrahedron_from (box_row i)

-- the index of the cell of the box that is adjacent to cell i of the box at side k, or 6 on a wall
abbrev pub box_number : (i k : ℕ) → ℕ
box_number i k = slice_index (slice_index_or box_across i []) k

abbrev pub box_keeper : ℕ → ℕ
box_keeper u = slice_index box_keepers u

abbrev pub box_cell : ℕ → Cell
box_cell i = record { v = box_row i; next = None ∷ None ∷ None ∷ None ∷ [] }

abbrev pub across_in : List ℕ → (i k : ℕ) → Option ℕ
across_in ids i k = if box_number i k == 6 then None else Some (slice_index ids (box_number i k))

-- side k of cell i of the box now has its neighbor (`across_in`), if it had none; nothing else has changed
pub record IsBoxStep (a b : Links) (ids : List ℕ) (i k : ℕ) : Type 0 where
  pub live : (x : ℕ) → b.is_live x ≡ a.is_live x
  pub same : (x : ℕ) → b.at x ≡ a.at x
  pub here : a.next (slice_index ids i) k ≡ None → b.next (slice_index ids i) k ≡ across_in ids i k
  pub others : (x m : ℕ) → (x ≢ slice_index ids i) ⊎ (m ≢ k) → b.next x m ≡ a.next x m

-- the first n of the 24 sides of the six cells of the box have their neighbors, and the other sides have none yet
pub record IsBoxLinked (a b : Links) (ids : List ℕ) (n : ℕ) : Type 0 where
  pub live : (x : ℕ) → b.is_live x ≡ a.is_live x
  pub same : (x : ℕ) → b.at x ≡ a.at x
  pub done : (i k : ℕ) → i < 6 → k < 4 → 4 * i + k < n → b.next (slice_index ids i) k ≡ across_in ids i k
  pub left : (i k : ℕ) → i < 6 → k < 4 → n ≤ 4 * i + k → b.next (slice_index ids i) k ≡ None

pub record AreBoxCells (links : Links) (ids : List ℕ) : Type 0 where
  pub live : (i : ℕ) → i < 6 → IsLive links (slice_index ids i)
  pub at : (i : ℕ) → i < 6 → links.at (slice_index ids i) ≡ box_tetrahedron i
  pub next : (i k : ℕ) → i < 6 → k < 4 → links.next (slice_index ids i) k ≡ across_in ids i k
  pub only : (x : ℕ) → IsLive links x → (i : ℕ) × (i < 6) × (slice_index ids i ≡ x)

-- the six cells of the box are cells, and each cell is an even permutation of one of them
pub record AreBoxCorners (v : Vertices) : Type 0 where
  pub cells : (i : ℕ) → i < 6
      → IsCell v (box_tetrahedron i).a (box_tetrahedron i).b (box_tetrahedron i).c (box_tetrahedron i).d
  pub all : (a b c d : ℕ) → IsCell v a b c d → (i : ℕ) × (i < 6) × IsRewritten (box_tetrahedron i) (tetrahedron a b c d)

-- for every number of vertices, with the corners alone in
abbrev pub CornerLaw : Type 0
CornerLaw = (v : Vertices) → IsBoxed v → ((u : ℕ) → Has v u → u < CORNERS) → AreBoxCorners v
