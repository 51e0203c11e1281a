-- That nothing but want of memory refuses a closed mesh.
--
-- The three vertices of a face are distinct, so it has no directed edge twice. So as many of its edges go from u to v as 1
-- where it has that edge, and 0 where not; and the edges of all faces that go there are as many as the faces that have such an
-- edge.
use Rattle.std.proofs.Common.{ℕ, ◌≡◌, refl, sym, ◌∙◌, arith, List, [], ◌∷◌, map}
use Rattle.std.specs.List.{All}
use Rattle.std.proofs.lemmas.Bool.Decides.{nat_tests}
use Rattle.std.proofs.lemmas.List.Elements.{All-head, All-tail}
use Rattle.std.proofs.lemmas.List.Sums.{sum_by-cons}
use Rattle.geo_sign.specs.Tetrahedron.{facet_at}
use Rattle.geo_sign.specs.Edges.{edges_of, edge_count}
use Rattle.mesh.specs.Meshes.{IsFace}
use Rattle.mesh_edges.specs.Edges.{has_edge, faces_with_edge}
use Rattle.solid_slice.specs.Laws.{ClosedIsSliced}
use Rattle.mesh_edges.proofs.Counts.{one_if}
use Rattle.solid_slice.proofs.Uniqueness.{balanced_is_sliced}

-- a face has an edge once at most
edges_of_face : (n u v : ℕ) (face : List ℕ) → IsFace n face → edges_of u v (facet_at face) ≡ one_if (has_edge u v face)
edges_of_face n u v [] o = absurd o
edges_of_face n u v (a ∷ []) o = absurd o
edges_of_face n u v (a ∷ b ∷ []) o = absurd o
edges_of_face n u v (a ∷ b ∷ c ∷ d ∷ x) o = absurd o
edges_of_face n u v (a ∷ b ∷ c ∷ []) (low, small, other, _, _) = grind (arith, nat_tests)

-- of all faces
edges_of_faces : (n u v : ℕ) (faces : List (List ℕ)) → All (IsFace n) faces
    → edge_count u v (map facet_at faces) ≡ faces_with_edge u v faces
edges_of_faces n u v [] each = refl
edges_of_faces n u v (face ∷ faces) each =
    omega (
      arith,
      sum_by-cons (edges_of u v) (facet_at face) (map facet_at faces),
      sum_by-cons (λ f. one_if (has_edge u v f)) face faces,
      edges_of_face n u v face (All-head (IsFace n) face faces each),
      edges_of_faces n u v faces (All-tail (IsFace n) face faces each),
    )

pub closed_is_sliced : ClosedIsSliced
closed_is_sliced = λ points faces valid closed.
    balanced_is_sliced faces
    (λ u v. sym (edges_of_faces _ u v faces valid.each) ∙ (closed u v ∙ edges_of_faces _ v u faces valid.each))
