-- What a flip requires of the other faces.
--
--   IsClear points q f               a face is apart from both new faces of a quad, and has not both ends of its new edge
--   IsFree points faces one other q  all faces but the quad's own are, and the new ones are apart
use Rattle.std.specs.Prelude.{ℕ, ◌≡◌, ◌≢◌, ◌<◌, true, List, [], ◌∷◌, length}
use Rattle.geo_sign.specs.Point.{Point}
use Rattle.mesh.specs.Meshes.{is_vertex_of}
use Rattle.mesh_edges.specs.Edges.{face_at}
use Rattle.triangles.specs.Gaps.{AreFacesApart}
use Rattle.mesh_flips.specs.declared.quad.Quad.{Quad}

-- the face is apart from both, and has not both ends of the new edge
pub record IsClear (points : List Point) (q : Quad) (f : List ℕ) : Type 0 where
  pub first : AreFacesApart points (q.a ∷ q.d ∷ q.c ∷ []) f
  pub second : AreFacesApart points (q.d ∷ q.b ∷ q.c ∷ []) f
  pub new : is_vertex_of q.c f ≡ true → is_vertex_of q.d f ≡ true → ⊥

-- all others are clear
pub record IsFree (points : List Point) (faces : List (List ℕ)) (one other : ℕ) (q : Quad) : Type 0 where
  pub clear : (i : ℕ) → i < length faces → i ≢ one → i ≢ other → IsClear points q (face_at faces i)
  pub both : AreFacesApart points (q.a ∷ q.d ∷ q.c ∷ []) (q.d ∷ q.b ∷ q.c ∷ [])
