-- Theorems on one vertex more. The boundary is that of the conflict region.
--
--   FanLaw        the cells with the new vertex are exactly those that join it to a facet of the boundary. The boundary
--                 is closed, and the vertex is on the inner side of each of its facets
--   StayLaw       the cells without the new vertex are those that are not in conflict with it
--   VertexLaw     no vertex is lost: if a cell is in conflict with p, each inserted vertex is in a facet of the
--                 boundary, or in a cell without conflict
--   FloodLaw      if marked cells are in conflict, and no step between cells in conflict leaves them, they are all
--                 cells in conflict
--   EdgeLaw       each directed edge of the boundary occurs once, and its reverse too
use Rattle.std.specs.Prelude.{ℕ, ◌<◌, ◌≡◌, ◌≢◌, ◌⊎◌, ◌↔◌, Bool, true, pos, ◌<ℤ◌, ◌≤ℤ◌, List}
use Rattle.geo_sign.specs.Tetrahedron.{Tetrahedron, DirectedFacet}
use Rattle.geo_sign.specs.Vertices.{Vertices, Has, orientation_of, power_of}
use Rattle.geo_sign.specs.Cells.{IsCell}
use Rattle.geo_sign.specs.Writings.{IsVertexOf}
use Rattle.geo_sign.specs.Boxes.{IsBoxed, with_vertex, IsNew, IsInConflict, IsClearOf}
use Rattle.cell_laws.specs.Fans.{IsOnFan}
use Rattle.cell_laws.specs.Lists.{IsIn, IsListing, IsClosedInConflict}
use Rattle.cell_laws.specs.Edges.{IsFanList, AreEdges}

-- the facets between the cells in conflict with p and all else, over which the cells with p will stand
pub record IsFanOf (v : Vertices) (p : ℕ) : Type 0 where
  -- p is before each facet
  pub before : (a b c : ℕ) → IsOnFan v p a b c → pos 0 <ℤ orientation_of v a b c p
  pub cells : (a b c : ℕ) → IsOnFan v p a b c ↔ IsCell (with_vertex v p) a b c p
  -- a facet reordered by an even permutation
  pub turned : (a b c : ℕ) → IsOnFan v p a b c → IsOnFan v p b c a
  -- each directed edge's reverse is in the boundary, and each directed edge once
  pub next : (a b c : ℕ) → IsOnFan v p a b c → (x : ℕ) × IsOnFan v p b a x
  pub once : (a b c d : ℕ) → IsOnFan v p a b c → IsOnFan v p a b d → c ≡ d
  -- there is a facet where a cell is in conflict
  pub some : (a b c d : ℕ) → IsCell v a b c d → power_of v a b c d p <ℤ pos 0 → (i j k : ℕ) × IsOnFan v p i j k

abbrev pub FanLaw : Type 0
FanLaw = (v : Vertices) → IsBoxed v → (p : ℕ) → IsNew v p → IsFanOf v p

-- this needs nothing of the vertices
abbrev pub StayLaw : Type 0
StayLaw =
    (v : Vertices) (p a b c d : ℕ) → p < v.count → a ≢ p → b ≢ p → c ≢ p → d ≢ p →
    IsCell (with_vertex v p) a b c d ↔ (IsCell v a b c d × (pos 0 ≤ℤ power_of v a b c d p))

-- if a cell is in conflict with p, each vertex is in a facet of the boundary, or in a cell with which p is not in conflict
abbrev pub VertexLaw : Type 0
VertexLaw =
    (v : Vertices) → IsBoxed v → (p : ℕ) → IsNew v p → (a b c d : ℕ) → IsCell v a b c d → power_of v a b c d p <ℤ pos 0 →
    (u : ℕ) → Has v u →
    ((i j k : ℕ) × IsOnFan v p i j k × ((u ≡ i) ⊎ ((u ≡ j) ⊎ (u ≡ k)))) ⊎
    ((t : Tetrahedron) × IsCell v t.a t.b t.c t.d × IsVertexOf t u × IsClearOf v p t)

abbrev pub FloodLaw : Type 0
FloodLaw =
    (v : Vertices) → IsBoxed v → (p : ℕ) → IsNew v p → (live : List ℕ) (cell : ℕ → Tetrahedron) → IsListing v live cell →
    (marked : ℕ → Bool) → IsClosedInConflict v p live cell marked →
    (x : ℕ) → IsIn live x → marked x ≡ true → IsInConflict v p (cell x) → (y : ℕ) → IsIn live y → IsInConflict v p (cell y) →
    marked y ≡ true

abbrev pub EdgeLaw : Type 0
EdgeLaw = (v : Vertices) → IsBoxed v → (p : ℕ) → IsNew v p → (n : ℕ) (f : ℕ → DirectedFacet) → IsFanList v p n f → AreEdges n f
