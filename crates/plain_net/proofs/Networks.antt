-- The two cells of a facet that has a capacity are in the list.
use Rattle.std.proofs.Common.{ℕ, ◌<◌, List, length}
use Rattle.visibility.specs.Scenes.{Scene}
use Rattle.geo_sign.specs.Tetrahedron.{facet_at, turned}
use Rattle.visibility.specs.Complexes.{has_facet, cell_index}
use Rattle.visibility.specs.Votes.{HasCapacity}
use Rattle.visibility.proofs.Indices.{first_within}

-- the two cells of a facet that has a capacity are in the list
pub record IsJoined (s : Scene) (cells : List (List ℕ)) (f : List ℕ) : Type 0 where
  pub own : cell_index s.vertices cells (facet_at f) < length cells
  pub across : cell_index s.vertices cells (turned (facet_at f)) < length cells

pub joined : (s : Scene) (cells : List (List ℕ)) (f : List ℕ) → HasCapacity s cells f → IsJoined s cells f
joined s cells f h =
    record {
      own = first_within (λ row. has_facet s.vertices row (facet_at f)) cells h.own;
      across = first_within (λ row. has_facet s.vertices row (turned (facet_at f))) cells h.across;
    }
