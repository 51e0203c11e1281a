-- Tables of the indices that rows and sides have in their lists, and the arcs that are made with them.
--
--   AreNumberedTo, AreNumbered  a table has the index of each of the first n, or of all
--   side_with t f               the side of a cell that has a facet
--   other_of slots x            the adjacent cell at a side
--   CanBecomeArc slots x        a side with a neighbor, whose numbers fit
--   arc_from ..                 the arc of a side, as the code finds it
--   AreArcs ..                  the arcs of sides, from tables of the indices
use Rattle.std.specs.Prelude.{ℕ, ◌≡◌, ◌<◌, ◌+◌, ◌*◌, ◌^◌, Bool, Option, Some, None, IsSome, List, length, map, slice_index}
use Rattle.std.specs.Prelude.{slice_index_or, unwrap_or, if◌then◌else◌}
use Rattle.flow_net.specs.declared.Arc.{Arc}
use Rattle.flow_net.specs.declared.votes.Settings.{Settings}
use Rattle.flow_net.specs.Nets.{flag_at}
use Rattle.geo_sign.specs.Tetrahedron.{Tetrahedron, DirectedFacet, facet_of, facet_at, turned, is_same_facet}
use Rattle.tetra_store.specs.declared.link.Cell.{Cell}
use Rattle.tetra_store.specs.Links.{links_of, IsLive}
use Rattle.cell_net.specs.declared.rows.Row.{Row}
use Rattle.cell_net.specs.declared.sides.Side.{Side}
use Rattle.cell_net.specs.CellRows.{least_first}
use Rattle.cell_net.specs.Parts.{id_of_row, number_of_side}

-- at the number of each of the first n stands its index
abbrev pub AreNumberedTo : {X : Type 0} → (X → ℕ) → List X → List ℕ → ℕ → Type 0
AreNumberedTo {X} f xs table n = (i : ℕ) (d : X) → i < n → slice_index table (f (slice_index_or xs i d)) ≡ i

-- of all
abbrev pub AreNumbered : {X : Type 0} → (X → ℕ) → List X → List ℕ → Type 0
AreNumbered f xs table = AreNumberedTo f xs table (length xs)

-- the side of a cell that has the facet, which has its least number first, and side 3 where none has
unfoldable pub side_with : Tetrahedron → DirectedFacet → ℕ
side_with t f =
    if is_same_facet (least_first (facet_of t 0)) f then 0 else
    (if is_same_facet (least_first (facet_of t 1)) f then 1
    else (if is_same_facet (least_first (facet_of t 2)) f then 2 else 3))

-- the neighbor, which is unique
abbrev pub other_of : List (Option Cell) → Side → ℕ
other_of slots x = unwrap_or ((links_of slots).next x.id x.side) 0

-- a side of a live cell that is not on a wall, and numbers that fit
pub record CanBecomeArc (slots : List (Option Cell)) (x : Side) : Type 0 where
  pub live : IsLive (links_of slots) x.id
  pub in_range : x.side < 4
  pub there : IsSome ((links_of slots).next x.id x.side)
  pub small : 4 * x.id + 4 < 2 ^ 64
  pub small_other : 4 * other_of slots x + 4 < 2 ^ 64

-- from the side's own cell to its neighbor's, at the visibility weight for each crossing and the area weight; its reverse
-- leaves a free cell alone
unfoldable pub arc_from : List (Option Cell) → (nodes numbers crossed : List ℕ) → List Bool → Settings → Side → Arc
arc_from slots nodes numbers crossed fixed settings x =
    record {
      from = slice_index nodes x.id;
      to = slice_index nodes (other_of slots x);
      cap = settings.vote * slice_index crossed (number_of_side x) + settings.smooth;
      pair =
          if flag_at fixed x.id then None else Some
          (slice_index numbers
          (4 * other_of slots x + side_with ((links_of slots).at (other_of slots x)) (turned (facet_at x.facet))));
    }

-- what the tables are is left open, but for the indices of rows and sides
pub record AreArcs (slots : List (Option Cell)) (rows : List Row) (sides : List Side) (crossed : List ℕ) (fixed : List Bool)
    (settings : Settings) (arcs : List Arc) : Type 0 where
  pub nodes : List ℕ
  pub numbers : List ℕ
  pub are_nodes : AreNumbered id_of_row rows nodes
  pub are_numbers : AreNumbered number_of_side sides numbers
  pub are_arcs : arcs ≡ map (arc_from slots nodes numbers crossed fixed settings) sides
