-- Half edges in two lists, by their direction.
--
--   rises faces h, falls faces h    whether a half edge goes to the greater vertex, or to the smaller
--   edge_number faces h             a number that is distinct for each pair of vertices
--   order_of r                      a number by which ranked half edges are in order
--   side_edge r, half_number r      the number of its edge, and its own
--   ranked_in list i                a ranked half edge of a list
--   IsHalf faces side n r           one of the first n half edges, of this side, with the number of its edge
--   AreHalves faces side n list     the first n half edges of this side, each once
--   AreTwinsByIndex there back twins      half edges at one index are twins
use Rattle.std.specs.Prelude.{ℕ, ◌≡◌, ◌+◌, ◌*◌, ◌<◌, ◌==◌, ◌&&◌, nat_lt, Bool, true, false, List, length, slice_index, slice_index_or, count_by, All, if◌then◌else◌}
use Rattle.mesh.specs.Meshes.{below}
use Rattle.mesh_edges.specs.HalfEdges.{start, behind}
use Rattle.mesh_edges.specs.declared.matching.Ranked.{Ranked}

-- whether it goes to the greater vertex
abbrev pub rises : List (List ℕ) → ℕ → Bool
rises faces h = nat_lt (start faces h) (start faces (behind h))

-- or to the smaller one
abbrev pub falls : List (List ℕ) → ℕ → Bool
falls faces h = if rises faces h then false else true

-- the smaller vertex first
abbrev pub edge_number : List (List ℕ) → ℕ → ℕ
edge_number faces h =
    if rises faces h then start faces h * 4294967296 + start faces (behind h)
    else start faces (behind h) * 4294967296 + start faces h

-- by edge, then by rank
abbrev pub order_of : Ranked → ℕ
order_of r = r.edge * 4294967296 + r.rank

abbrev pub side_edge : Ranked → ℕ
side_edge r = r.edge

abbrev pub half_number : Ranked → ℕ
half_number r = r.half

-- a ranked half edge of a list
abbrev pub ranked_in : List Ranked → ℕ → Ranked
ranked_in list i = slice_index_or list i (record { edge = 0; rank = 0; half = 0 })

-- one of the first n half edges, of this side
pub record IsHalf (faces : List (List ℕ)) (side : ℕ → Bool) (n : ℕ) (r : Ranked) : Type 0 where
  pub within : r.half < n
  pub here : side r.half ≡ true
  pub number : r.edge ≡ edge_number faces r.half
  pub rank : r.rank < 4294967296

-- the first n half edges of this side, each once
pub record AreHalves (faces : List (List ℕ)) (side : ℕ → Bool) (n : ℕ) (list : List Ranked) : Type 0 where
  pub each : All (IsHalf faces side n) list
  pub once : (h : ℕ) → count_by (λ r. half_number r == h) list ≡ (if nat_lt h n && side h then 1 else 0)
  pub counts :
      (k : ℕ)
      → count_by (λ r. side_edge r == k) list ≡ count_by (λ h. side h && (edge_number faces h == k)) (below n)

-- half edges at one index are twins
abbrev pub AreTwinsByIndex : (there back : List Ranked) → (twins : List ℕ) → Type 0
AreTwinsByIndex there back twins =
    (i : ℕ) → i < length there → i < length back
    → (slice_index twins (half_number (ranked_in there i)) ≡ half_number (ranked_in back i))
    × (slice_index twins (half_number (ranked_in back i)) ≡ half_number (ranked_in there i))
