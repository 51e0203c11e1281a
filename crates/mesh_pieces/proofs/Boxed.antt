-- Copies of points in the box are in the box.
use Rattle.std.proofs.Common.{ℕ, ◌≡◌, ◌<◌, ◌≤◌, sym, subst, arith, inl, inr, List, length, get_or, map}
use Rattle.std.specs.List.{All}
use Rattle.std.proofs.lemmas.Bool.{cases_lt}
use Rattle.std.proofs.lemmas.List.{get_or_past}
use Rattle.std.proofs.lemmas.List.Elements.{All-map}
use Rattle.geo_sign.specs.Point.{Point, IsWithin, origin}
use Rattle.mesh.specs.Meshes.{point_at}
use Rattle.mesh_pieces.specs.Copies.{IsCopy}

-- the place of a vertex, also of one beyond the last
at_vertex : (m : ℕ) (points : List Point) (v : ℕ) → All (IsWithin m) points → IsWithin m (point_at points v)
at_vertex m points v boxed =
    elim (cases_lt v (length points)) [
      | inl l ↦ boxed v origin l
      | inr l ↦
          subst (λ (p : Point). IsWithin m p) (sym (get_or_past points v origin l))
          (record { x_within = omega arith; y_within = omega arith; z_within = omega arith })
    ]

pub copies_boxed : (m : ℕ) (points new : List Point) (faces new_faces : List (List ℕ)) (from : List ℕ)
    → IsCopy points faces new new_faces from → All (IsWithin m) points → All (IsWithin m) new
copies_boxed m points new faces new_faces from copy boxed =
    subst (λ (ps : List Point). All (IsWithin m) ps) (sym copy.places)
    (All-map (IsWithin m) (point_at points) from (λ k d l. at_vertex m points (get_or from k d) boxed))
