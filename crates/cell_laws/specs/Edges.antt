-- The directed edges of facets, and new cells over facets.
--
--   IsFanList v p n f               the facets f 0 to f (n - 1) are the boundary of the conflict region, each once
--   AreEdges n f                    each directed edge is in one facet, and its reverse is there too
use Rattle.std.specs.Prelude.{ℕ, ◌≡◌, ◌<◌}
use Rattle.geo_sign.specs.Edges.{edge_end, edge_start}
use Rattle.geo_sign.specs.Tetrahedron.{DirectedFacet, facet, IsRotated}
use Rattle.geo_sign.specs.Vertices.{Vertices}
use Rattle.cell_laws.specs.Fans.{IsOnFan}

pub record IsFanList (v : Vertices) (p n : ℕ) (f : ℕ → DirectedFacet) : Type 0 where
  pub fan : (i : ℕ) → i < n → IsOnFan v p (f i).a (f i).b (f i).c
  pub all : (a b c : ℕ) → IsOnFan v p a b c → (i : ℕ) × (i < n) × IsRotated (f i) (facet a b c)
  pub once : (i j : ℕ) → i < n → j < n → IsRotated (f i) (f j) → i ≡ j

pub record AreEdges (n : ℕ) (f : ℕ → DirectedFacet) : Type 0 where
  pub next :
      (i e : ℕ) → i < n →
      (j : ℕ) × (k : ℕ) × (j < n) × (k < 3) × (edge_start (f j) k ≡ edge_end (f i) e) × (edge_end (f j) k ≡ edge_start (f i) e)
  pub apart : (i e j k : ℕ) → i < n → j < n → edge_start (f i) e ≡ edge_start (f j) k → edge_end (f i) e ≡ edge_end (f j) k
      → i ≡ j
