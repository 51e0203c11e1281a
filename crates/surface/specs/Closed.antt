-- Closed faces.
--
--   IsClosed faces     each directed edge occurs as often as its reverse, counted by `edges_of` of `cell_laws`
use Rattle.std.specs.Prelude.{ℕ, ◌≡◌, List, map}
use Rattle.geo_sign.specs.Tetrahedron.{facet_at}
use Rattle.geo_sign.specs.Edges.{edge_count}

-- faces by their three numbers
abbrev pub IsClosed : List (List ℕ) → Type 0
IsClosed faces = (u w : ℕ) → edge_count u w (map facet_at faces) ≡ edge_count w u (map facet_at faces)
