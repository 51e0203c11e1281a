-- The rows that a walk over the store's cells finds are those of the stored cells and facets. What is known of cells and sides by
-- their numbers is known of their vertices, so a cell has a row in the walk exactly where its row passes the test, and a side where its
-- facet has an amount: over a side that is no facet of the complex nothing flows.
use Rattle.std.proofs.Common.{ℕ, ◌≡◌, ◌<◌, ◌+◌, ◌*◌, not, refl, ap, arith, Bool, true, false}
use Rattle.std.proofs.Common.{cond, Option, None, is_some, List, [], ◌∷◌, ◌++◌, length, get_or, map, filter, Contains, eqb}
use Rattle.std.specs.List.{flat_map}
use Rattle.std.proofs.lemmas.List.{map-append}
use Rattle.std.proofs.lemmas.List.Elements.{filter-append}
use Rattle.slab.specs.Slab.{entries_from}
use Rattle.flow_net.specs.Nets.{flag_at}
use Rattle.geo_sign.proofs.Members.{there}
use Rattle.solution.specs.Solutions.{flow_rows, sink_rows, listed}
use Rattle.tetra_store.specs.declared.link.Cell.{Cell}
use Rattle.tetra_store.specs.Links.{vertices_in, tetrahedron_from}
use Rattle.tetra_store.proofs.Observed.{slot_in}
use Rattle.cell_net.specs.Arcs.{is_free}
use Rattle.cell_net.specs.ByNumber.{SaysOfCells, SaysOfSides, IsZeroElsewhere}
use Rattle.cell_net.specs.CellRows.{facet_row, risen, row_from}
use Rattle.cell_net.specs.Counts.{row_of}
use Rattle.cell_net.specs.Gathered.{row_at, side_if_open, open_at}
use Rattle.cell_net.specs.StoredComplexes.{stored_cells, stored_facets}
use Rattle.cell_net.specs.Parts.{cell_of_row, facet_of_side}
use Rattle.cell_net.specs.declared.sides.Side.{Side}
use Rattle.cell_net.proofs.Entries.{entry_slot}
use Rattle.recon_build.specs.Walks.{row_if_inside, flow_if_any, flows_if_any, sink_if_any, all_inside, all_flows, all_sinks}

-- the number of a live cell is below that of slots
pub entry_below : (slots : List (Option Cell)) (e : ℕ × Cell) → Contains (entries_from 0 slots) e → e.0 < length slots
entry_below slots e h = slot_in slots e.0 (ap is_some (entry_slot slots e h))

-- ---- rows of a list in two pieces
listed_append : {Row : Type 0} (make : List ℕ → ℕ → Row) (on : List ℕ → ℕ) (xs ys : List (List ℕ))
    → listed make (xs ++ ys) on ≡ listed make xs on ++ listed make ys on
listed_append make on xs ys = grind (arith, filter-append, map-append)

-- the rows of one key
listed_one : {Row : Type 0} (make : List ℕ → ℕ → Row) (on : List ℕ → ℕ) (key : List ℕ) (amount : ℕ) → amount ≡ on key
    → listed make (key ∷ []) on ≡ cond (not (eqb amount 0)) (make key amount ∷ []) []
listed_one {Row} make on key amount same = grind arith

-- ---- cells, one row each
rows_of : List (ℕ × Cell) → List (List ℕ)
rows_of es = map cell_of_row (map row_at es)

module _ (test : List ℕ → Bool) (inside : List Bool) where
  kept : (es : List (ℕ × Cell))
      → ((e : ℕ × Cell) → Contains es e → flag_at inside e.0 ≡ test (row_from (risen (tetrahedron_from e.1.v))))
      → flat_map (row_if_inside inside) es ≡ filter test (rows_of es)
  unfolding row_if_inside rows_of
  kept [] same = refl
  kept (e ∷ es) same = grind (arith, kept es (λ d h. same d (there e d es h)))

-- of a live cell as it stands in the store
row_is : (slots : List (Option Cell)) (e : ℕ × Cell) → Contains (entries_from 0 slots) e
    → row_of slots e.0 ≡ row_from (risen (tetrahedron_from e.1.v))
row_is slots e h = ap (λ (o : Option Cell). row_from (risen (vertices_in o))) (entry_slot slots e h)

pub inside_found : (slots : List (Option Cell)) (inside : List Bool) (test : List ℕ → Bool)
    → SaysOfCells slots (flag_at inside) test → all_inside inside slots ≡ filter test (stored_cells slots)
unfolding rows_of
inside_found slots inside test says = grind (arith, kept, entry_slot, row_is)

module _ (at : List ℕ → ℕ) (amounts : List ℕ) where
  sunk : (es : List (ℕ × Cell))
      → ((e : ℕ × Cell) → Contains es e → get_or amounts e.0 0 ≡ at (row_from (risen (tetrahedron_from e.1.v))))
      → flat_map (sink_if_any amounts) es ≡ sink_rows (rows_of es) at
  unfolding sink_if_any rows_of
  sunk [] same = refl
  sunk (e ∷ es) same = grind (arith, listed_one, sunk es (λ d h. same d (there e d es h)), listed_append, rows_of)

pub sinks_found : (slots : List (Option Cell)) (amounts : List ℕ) (at : List ℕ → ℕ)
    → SaysOfCells slots (λ id. get_or amounts id 0) at → all_sinks amounts slots ≡ sink_rows (stored_cells slots) at
unfolding rows_of
sinks_found slots amounts at says = grind (arith, sunk, entry_slot, row_is)

-- ---- sides, four a cell
module _ (fixed : List Bool) (on : List ℕ → ℕ) (amounts : List ℕ) where
  -- the amount of an open side is that of its facet, and that of another is 0
  IsSaid : ℕ × Cell → ℕ → Bool → Type 0
  IsSaid e k true = get_or amounts (4 * e.0 + k) 0 ≡ on (facet_row (tetrahedron_from e.1.v) k)
  IsSaid e k false = get_or amounts (4 * e.0 + k) 0 ≡ 0

  AreSaid : ℕ × Cell → Type 0
  AreSaid e = (k : ℕ) → k < 4 → IsSaid e k (is_free fixed (get_or e.1.next k None))

  flow_found : (e : ℕ × Cell) (k : ℕ) → IsSaid e k (is_free fixed (get_or e.1.next k None))
      → flow_if_any amounts e k ≡ flow_rows (map facet_of_side (side_if_open fixed e k)) on
  unfolding flow_if_any side_if_open IsSaid
  flow_found e k said = grind (arith, listed_one)

  flow_pieces : (xs ys : List Side) → flow_rows (map facet_of_side (xs ++ ys)) on
      ≡ flow_rows (map facet_of_side xs) on ++ flow_rows (map facet_of_side ys) on
  flow_pieces xs ys = grind (arith, map-append, listed_append)

  flows_found : (e : ℕ × Cell) → AreSaid e → flows_if_any amounts e ≡ flow_rows (map facet_of_side (open_at fixed e)) on
  unfolding AreSaid
  flows_found e said = grind (arith, flow_found, flow_pieces)

  flowed : (es : List (ℕ × Cell)) → ((e : ℕ × Cell) → Contains es e → AreSaid e)
      → flat_map (flows_if_any amounts) es ≡ flow_rows (map facet_of_side (flat_map (open_at fixed) es)) on
  flowed [] said = refl
  flowed (e ∷ es) said = grind (arith, flows_found, flowed es (λ d h. said d (there e d es h)), flow_pieces)

pub all_flows_found : (slots : List (Option Cell)) (fixed : List Bool) (amounts : List ℕ) (on : List ℕ → ℕ)
    → SaysOfSides slots fixed (λ j. get_or amounts j 0) on → IsZeroElsewhere slots fixed (λ j. get_or amounts j 0)
    → all_flows amounts slots ≡ flow_rows (stored_facets fixed slots) on
unfolding AreSaid IsSaid
all_flows_found slots fixed amounts on says none = grind (arith, flowed, AreSaid, entry_slot)
