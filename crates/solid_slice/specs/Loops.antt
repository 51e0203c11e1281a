-- The loops of cut faces.
--
--   IsNext points faces h f g     face g follows f: the up edge of g is the reverse of the down edge of f. If several
--                                 faces have that edge, the i-th face with the down edge is followed by the i-th with
--                                 the up edge, in the order of faces
--   IsLoop points faces h ring    the ring's faces, each the next of the one before, round the ring, the smallest first
--   the_face s                    the face of a step
--   ring_faces r                  the faces of a ring
--   AreLoops points faces h rings
--                                 each cut face in exactly one ring, once, and the rings sorted by their first faces
use Rattle.std.specs.Prelude.{ℕ, ◌≡◌, ◌+◌, ◌-◌, ◌<◌, ◌≤◌, ◌==◌, List, [], length, take, slice_index, slice_index_or, map, All}
use Rattle.std.specs.Prelude.{count_by, if◌then◌else◌, ℤ}
use Rattle.std.specs.List.{concat}
use Rattle.geo_sign.specs.Point.{Point}
use Rattle.mesh_edges.specs.Edges.{faces_with_edge, face_at}
use Rattle.solid_slice.specs.Cuts.{is_cut_at, IsUpEdge, IsDownEdge}
use Rattle.solid_slice.specs.declared.step.Step.{Step}
use Rattle.solid_slice.specs.declared.step.Ring.{Ring}

-- The up edge of g is the reverse of the down edge of f, and as many faces before f have this down edge as faces before g have
-- the up edge: if f is the i-th of its down edge, g is the i-th of its up edge.
pub record IsNext (points : List Point) (faces : List (List ℕ)) (h : ℤ) (f g : ℕ) : Type 0 where
  pub upper : ℕ
  pub lower : ℕ
  pub down : IsDownEdge points h (face_at faces f) upper lower
  pub up : IsUpEdge points h (face_at faces g) lower upper
  pub rank : faces_with_edge upper lower (take f faces) ≡ faces_with_edge lower upper (take g faces)

-- each face is the next of the one before, round the ring, and the smallest is first
pub record IsLoop (points : List Point) (faces : List (List ℕ)) (h : ℤ) (ring : List ℕ) : Type 0 where
  pub some : 0 < length ring
  pub next : (k : ℕ) → k + 1 < length ring → IsNext points faces h (slice_index ring k) (slice_index ring (k + 1))
  pub closed : IsNext points faces h (slice_index ring (length ring - 1)) (slice_index ring 0)
  pub smallest : All (λ f. slice_index ring 0 ≤ f) ring

abbrev pub the_face : Step → ℕ
the_face s = s.face

abbrev pub ring_faces : Ring → List ℕ
ring_faces r = map the_face r.steps.items

-- each ring is a loop, each cut face occurs in the rings once and no other face at all, and the first faces ascend
pub record AreLoops (points : List Point) (faces : List (List ℕ)) (h : ℤ) (rings : List (List ℕ)) : Type 0 where
  pub each : All (IsLoop points faces h) rings
  pub once : (f : ℕ) → count_by (λ g. g == f) (concat rings) ≡ (if is_cut_at points faces h f then 1 else 0)
  pub in_order : (j k : ℕ) → j < k → k < length rings
      → slice_index (slice_index_or rings j []) 0 < slice_index (slice_index_or rings k []) 0
