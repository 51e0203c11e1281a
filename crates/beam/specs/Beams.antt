-- The lines of sight of one scanner, each followed from there to some cell, and what they are yet to add to the counters.
--
--   IsPassage s o y p          p describes the live cell y from which lines of sight leave: its number, its four
--                              vertices, and how lines of sight came into it (`AreWays`)
--   IsWaiting s o y r          r is a line of sight of the store (`IsRayIn`), and it passes the live cell y
--   AreWaiting s o w           w is a live cell with a list of lines of sight, and each of them passes the cell
--                              (`IsWaiting`)
--   AllWait s o waiting        each entry of the list is a live cell with lines of sight that pass it (`AreWaiting`)
--   total f waiting            the sum of a number f over all lines of sight that wait, each with its cell
--   weight_on s o id k r       the weight of the line of sight if it crosses facet k of the cell, else 0
--   is_yet s o id k y p        1 if the line of sight of the vertex p, followed from the scanner to the cell y, has
--                              still to cross the facet of side k of the cell id, else 0. `sides_from` has the facets
--                              that it has passed
--   still_added s o id k y r   the weight that the line of sight r, followed from the scanner to the cell y, will still
--                              add to the facet of side k of the cell id: all of its weight, or 0
--   steps_left s o y r         an upper bound of the number of facets that the line of sight r, followed from the
--                              scanner to the cell y, has still to cross: the number of slots of the store plus 1,
--                              minus the facets between y and the scanner
--   work s o waiting           an upper bound of the number of steps of a loop over all lines of sight that wait: twice
--                              the sum of their `steps_left`, plus the number of cells in which some wait
use Rattle.std.specs.Prelude.{ℕ, ◌≡◌, ◌+◌, ◌-◌, ◌*◌, List, length, if◌then◌else◌}
use Rattle.std.specs.List.{All, sum_by}
use Rattle.geo_sign.specs.Point.{Point}
use Rattle.geo_sign.specs.Rational.{displaced}
use Rattle.geo_sign.specs.Sights.{is_crossed}
use Rattle.geo_sign.specs.Tetrahedron.{facet_of}
use Rattle.cell_laws.specs.Lists.{count}
use Rattle.geo_sign.specs.Edges.{one_if}
use Rattle.cell_laws.specs.Paths.{IsOnSight, is_that}
use Rattle.tetra_store.specs.Links.{links_of, tetrahedron_from, IsLive}
use Rattle.tetra_store.specs.Store.{Store, vertices_of}
use Rattle.sight.specs.Walks.{sides_from}
use Rattle.beam.specs.declared.beam.Passage.{Passage}
use Rattle.beam.specs.declared.waiting.Waiting.{Waiting}
use Rattle.beam.specs.declared.ways.Ray.{Ray}
use Rattle.beam.specs.Ways.{IsRayIn, AreWays}

-- its number, vertices and ways in belong together
pub record IsPassage (s : Store) (o : Point) (y : ℕ) (p : Passage) : Type 0 where
  pub cell : p.cell ≡ y
  pub live : IsLive (links_of s.slots) y
  pub vertices : tetrahedron_from p.vertices ≡ (links_of s.slots).at y
  pub ways : AreWays (vertices_of s) o (tetrahedron_from p.vertices) p.ways

-- it is one of the store, and the cell is on it
pub record IsWaiting (s : Store) (o : Point) (y : ℕ) (r : Ray) : Type 0 where
  pub ray : IsRayIn s r
  pub live : IsLive (links_of s.slots) y
  pub on : IsOnSight (vertices_of s) r.vertex (displaced o) ((links_of s.slots).at y)

-- all of a list, in a live cell
pub record AreWaiting (s : Store) (o : Point) (w : Waiting) : Type 0 where
  pub live : IsLive (links_of s.slots) w.cell
  pub rays : All (IsWaiting s o w.cell) w.rays.items

-- each list in its cell
abbrev pub AllWait : Store → Point → List Waiting → Type 0
AllWait s o waiting = All (AreWaiting s o) waiting

-- by the cell and the line of sight
abbrev pub total : (ℕ → Ray → ℕ) → List Waiting → ℕ
total f waiting = sum_by (λ w. sum_by (f w.cell) w.rays.items) waiting

-- all of its weight if it crosses the facet
abbrev pub weight_on : Store → Point → (id k : ℕ) → Ray → ℕ
weight_on s o id k r =
    if is_crossed (vertices_of s) r.vertex (displaced o) (facet_of ((links_of s.slots).at id) k) then r.added else 0

-- it crosses the facet, and not on the way from y to the scanner
abbrev pub is_yet : Store → Point → (id k y p : ℕ) → ℕ
is_yet s o id k y p =
    one_if (is_crossed (vertices_of s) p (displaced o) (facet_of ((links_of s.slots).at id) k))
    - count (is_that (record { at = id; side = k })) (sides_from s p o y)

-- all of it or none
abbrev pub still_added : Store → Point → (id k y : ℕ) → Ray → ℕ
still_added s o id k y r = r.added * is_yet s o id k y r.vertex

-- the number of slots and one, less the facets on the way from y to the scanner
abbrev pub steps_left : Store → Point → (y : ℕ) → Ray → ℕ
steps_left s o y r = length s.slots + 1 - length (sides_from s r.vertex o y)

-- two for each step of each, and one for each cell in the list
abbrev pub work : Store → Point → List Waiting → ℕ
work s o waiting = 2 * total (steps_left s o) waiting + length waiting
