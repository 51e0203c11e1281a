-- Faces that the height h + 1/2 cuts. No vertex has this height.
--
--   is_above points h v           vertex v is above the plane of the slice. The plane is at the height h + 1/2, so no
--                                 vertex is on it
--   is_cut_face points h face     whether the face has vertices above and below
--   is_cut_at points faces h f    whether face number f is cut
--   IsUpEdge points h face u v    the edge from u to v is one of the face's, and crosses the height upwards
--   IsDownEdge points h face u v  the edge from u to v is one of the face's, and crosses the height downwards
--   rise u v                      twice the height of an edge
--   climb h u                     twice the height from its first vertex to the plane
--   at_height h u v from to       a coordinate of the edge's point in the plane, times the rise
--   IsStep points faces h s       the point of the step is where the up edge of its face meets the plane
use Rattle.std.specs.Prelude.{ℕ, ◌≡◌, ◌&&◌, not, Bool, true, false, List, ℤ, pos, ◌+ℤ◌, ◌-ℤ◌, ◌*ℤ◌}
use Rattle.std.specs.Int.Signed.{lt_z}
use Rattle.std.specs.List.{list_any}
use Rattle.geo_sign.specs.Point.{Point}
use Rattle.mesh.specs.Meshes.{point_at}
use Rattle.mesh_edges.specs.Edges.{has_edge, face_at}
use Rattle.solid_slice.specs.declared.step.Step.{Step}

-- whether vertex v is above the height h + 1/2
abbrev pub is_above : List Point → ℤ → ℕ → Bool
is_above points h v = lt_z h (point_at points v).z

-- whether the face has vertices above and below
abbrev pub is_cut_face : List Point → ℤ → List ℕ → Bool
is_cut_face points h face = list_any (is_above points h) face && list_any (λ v. not (is_above points h v)) face

-- whether face number f is cut
abbrev pub is_cut_at : List Point → List (List ℕ) → ℤ → ℕ → Bool
is_cut_at points faces h f = is_cut_face points h (face_at faces f)

-- the face's edge from u below to v above
pub record IsUpEdge (points : List Point) (h : ℤ) (face : List ℕ) (u v : ℕ) : Type 0 where
  pub edge : has_edge u v face ≡ true
  pub from_below : is_above points h u ≡ false
  pub to_above : is_above points h v ≡ true

-- the face's edge from u above to v below
pub record IsDownEdge (points : List Point) (h : ℤ) (face : List ℕ) (u v : ℕ) : Type 0 where
  pub edge : has_edge u v face ≡ true
  pub from_above : is_above points h u ≡ true
  pub to_below : is_above points h v ≡ false

-- twice the height from u to v
abbrev pub rise : (u v : Point) → ℤ
rise u v = pos 2 *ℤ (v.z -ℤ u.z)

-- twice the height from u to h + 1/2
abbrev pub climb : ℤ → Point → ℤ
climb h u = (pos 2 *ℤ h +ℤ pos 1) -ℤ pos 2 *ℤ u.z

-- the coordinate where the edge from u to v, whose coordinates are given, crosses the height, times the edge's rise
abbrev pub at_height : ℤ → (u v : Point) → (from to : ℤ) → ℤ
at_height h u v from to = from *ℤ rise u v +ℤ (to -ℤ from) *ℤ climb h u

-- the step's point is where its face's up edge crosses the height
pub record IsStep (points : List Point) (faces : List (List ℕ)) (h : ℤ) (s : Step) : Type 0 where
  pub lower : ℕ
  pub upper : ℕ
  pub up : IsUpEdge points h (face_at faces s.face) lower upper
  pub x : s.x ≡ at_height h (point_at points lower) (point_at points upper) (point_at points lower).x (point_at points upper).x
  pub y : s.y ≡ at_height h (point_at points lower) (point_at points upper) (point_at points lower).y (point_at points upper).y
  pub d : s.d ≡ rise (point_at points lower) (point_at points upper)
