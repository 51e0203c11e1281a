-- What holds of a scene's amounts and lists, and labels by number as a test of cells.
--
--   row_index rows row     the index of a row in a list
--   test_of cells flags    labels by number as a test of cells
--   CapacitiesFit, SinksFit   no capacity and no sink is large
--   HasOneBehind s cells   of some cells each sight has at most one behind it. Then the least cost is below 2^47
--   LeastCostIsSmall       then no least cost is large, however many vertices there are
--   IsOrdered n f          three distinct numbers below n, the smallest first
--   FacetsAreOrdered       each facet that has a capacity is written so
--   OneComplex             a scene has no two lists of cells and of facets
use Rattle.std.specs.Prelude.{ℕ, ◌≡◌, ◌≢◌, ◌<◌, ◌≤◌, ◌^◌, Bool, List, count_by, Contains}
use Rattle.std.specs.List.{position_or_len}
use Rattle.std.specs.Str.{bytes_eq}
use Rattle.flow_net.specs.Nets.{flag_at}
use Rattle.flow_net.specs.Weights.{IsSightList}
use Rattle.geo_sign.specs.Tetrahedron.{DirectedFacet, facet_at, numbers_of}
use Rattle.geo_sign.specs.Cells.{written}
use Rattle.geo_sign.specs.Sights.{is_behind}
use Rattle.flow_net.specs.declared.votes.Sight.{Sight}
use Rattle.visibility.specs.Scenes.{Scene, scanner_point}
use Rattle.visibility.specs.Complexes.{Complex}
use Rattle.visibility.specs.Votes.{capacity, sink, IsComplexOf}
use Rattle.visibility.specs.Cuts.{cost, IsLeastCost}

-- the index of a row in a list
abbrev pub row_index : List (List ℕ) → List ℕ → ℕ
row_index rows row = position_or_len (λ other. bytes_eq other row) rows

-- the flag at the cell's index
abbrev pub test_of : List (List ℕ) → List Bool → List ℕ → Bool
test_of cells flags row = flag_at flags (row_index cells row)

-- a capacity and a sink are below 2^48
abbrev pub CapacitiesFit : Type 0
CapacitiesFit = (s : Scene) (f : DirectedFacet) → IsSightList s.sights → capacity s f < 2 ^ 48

abbrev pub SinksFit : Type 0
SinksFit = (s : Scene) (row : List ℕ) → IsSightList s.sights → sink s row < 2 ^ 48

-- each sight has at most one of these cells behind it
abbrev pub HasOneBehind : Scene → List (List ℕ) → Type 0
HasOneBehind s cells =
    (sight : Sight) → Contains s.sights sight
    → count_by
    (λ row. is_behind s.vertices sight.vertex (scanner_point s.scanners sight.scanner) (written s.vertices row)) cells ≤ 1

-- then the least cost is below 2^47, however many vertices there are
abbrev pub LeastCostIsSmall : Type 0
LeastCostIsSmall =
    (s : Scene) (complex : Complex) (inside : List ℕ → Bool) → HasOneBehind s complex.cells → IsSightList s.sights
    → IsLeastCost s complex inside
    → cost s complex inside < 2 ^ 47

-- three distinct numbers below n, the smallest first
pub record IsOrdered (n : ℕ) (f : List ℕ) : Type 0 where
  pub three : f ≡ numbers_of (facet_at f)
  pub first_second : (facet_at f).a < (facet_at f).b
  pub first_third : (facet_at f).a < (facet_at f).c
  pub apart : (facet_at f).b ≢ (facet_at f).c
  pub second_below : (facet_at f).b < n
  pub third_below : (facet_at f).c < n

-- each facet that has a capacity is written so
abbrev pub FacetsAreOrdered : Type 0
FacetsAreOrdered =
    (s : Scene) (complex : Complex) → IsComplexOf s complex → (f : List ℕ) → Contains complex.facets f
    → IsOrdered s.vertices.count f

-- two lists of all cells and of all facets that have a capacity are the same
abbrev pub OneComplex : Type 0
OneComplex = (s : Scene) (complex other : Complex) → IsComplexOf s complex → IsComplexOf s other → complex ≡ other
