-- The facets between cells inside and outside are closed. Labels are a test of names.
--
--   HasNoCorner live cell inside       no cell inside has a corner of the box
--   IsCutList live next inside sides   the sides of outside cells with an inside adjacent cell, each once
--   facets_at cell sides               the facets of these sides, each in the direction that it has in its own cell
--   ClosedLaw                          between outside and inside cells each directed edge occurs as often as its
--                                      reverse
use Rattle.std.specs.Prelude.{ℕ, ◌<◌, ◌≤◌, ◌≡◌, ◌≢◌, Bool, true, false, Option, Some, List, map, AllPairs}
use Rattle.geo_sign.specs.declared.point.TheConstants.{CORNERS}
use Rattle.geo_sign.specs.Tetrahedron.{Tetrahedron, DirectedFacet, facet_of, vertex_of}
use Rattle.geo_sign.specs.Vertices.{Vertices}
use Rattle.geo_sign.specs.Boxes.{IsBoxed}
use Rattle.cell_laws.specs.Links.{Side, AreLinked}
use Rattle.geo_sign.specs.Edges.{edge_count}
use Rattle.cell_laws.specs.Lists.{IsIn, AreCells}

abbrev pub HasNoCorner : (live : List ℕ) (cell : ℕ → Tetrahedron) (inside : ℕ → Bool) → Type 0
HasNoCorner live cell inside = (x k : ℕ) → IsIn live x → inside x ≡ true → k < 4 → CORNERS ≤ vertex_of (cell x) k

pub record IsCutList (live : List ℕ) (next : ℕ → ℕ → Option ℕ) (inside : ℕ → Bool) (sides : List Side) : Type 0 where
  pub listed : (s : Side) → IsIn sides s → IsIn live s.at
  pub in_range : (s : Side) → IsIn sides s → s.side < 4
  pub outside : (s : Side) → IsIn sides s → inside s.at ≡ false
  pub across : (s : Side) → IsIn sides s → (y : ℕ) × (next s.at s.side ≡ Some y) × (inside y ≡ true)
  pub all :
      (s : Side) (y : ℕ) → IsIn live s.at → s.side < 4 → inside s.at ≡ false → next s.at s.side ≡ Some y → inside y ≡ true →
      IsIn sides s
  pub once : AllPairs (λ s t. s ≢ t) sides

abbrev pub facets_at : (cell : ℕ → Tetrahedron) → List Side → List DirectedFacet
facets_at cell sides = map (λ (s : Side). facet_of (cell s.at) s.side) sides

abbrev pub ClosedLaw : Type 0
ClosedLaw =
    (v : Vertices) → IsBoxed v → (live : List ℕ) (cell : ℕ → Tetrahedron) (next : ℕ → ℕ → Option ℕ) →
    AreLinked v live cell next → AreCells v live cell →
    (inside : ℕ → Bool) → HasNoCorner live cell inside → (sides : List Side) → IsCutList live next inside sides → (u w : ℕ) →
    edge_count u w (facets_at cell sides) ≡ edge_count w u (facets_at cell sides)
