-- The mesh of the facets between inside and outside.
--
-- The flags of live cells are the labels turned round. So the sorted facets that the store's cells give are
-- those that the labels cut (`are_cut_facets`), and a list of faces of the points (`are_faces`), as the mesh wants them. Over a scene
-- they are its facets that the labels cut (`cut_in_scene`). The sides of the cut are closed (`closed_sides`), and the mesh keeps this
-- (`mesh_closed`).
use Rattle.std.proofs.Common.{ℕ, ◌^◌, ◌≡◌, ◌<◌, ◌≤◌, ◌∙◌, not, length, subst, sym, ap, arith, IfOk, List, Bool, Result}
use Rattle.std.proofs.lemmas.Result.{IfOk-weaker}
use Rattle.geo_sign.specs.Point.{Point}
use Rattle.flow_net.specs.Nets.{flag_at}
use Rattle.mesh.specs.Meshes.{mesh_of, IsFaceList}
use Rattle.mesh.specs.declared.mesh.Mesh.{Mesh}
use Rattle.tetra_store.specs.Links.{links_of, IsLive}
use Rattle.tetra_store.specs.Store.{Store, IsStore, vertices_of}
use Rattle.surface.specs.Closed.{IsClosed}
use Rattle.surface.specs.Labelled.{AreCutFacets, IsCutMesh, IsSortedCut, NoneHasCorner}
use Rattle.surface.proofs.ClosedCut.{closed_sides, mesh_closed, none_flagged}
use Rattle.surface.proofs.CutList.{cut_in_scene}
use Rattle.surface.proofs.StoreCut.{are_cut_facets, are_faces}
use Rattle.surface.proofs.boundary.facets_by_number.Goals as goal

-- what is known of the facets
record AreFound (s : Store) (inside : ℕ → Bool) (facets : List (List ℕ)) : Type 0 where
  are_cut : AreCutFacets s.slots inside facets
  faces : IsFaceList (length s.points) facets
  closed : IsClosed facets

-- by the names that the lists have in the code
found : (s : Store) → IsStore s → (inside : ℕ → Bool) (flags outside : List Bool) (limit : ℕ)
    → ((id : ℕ) → IsLive (links_of s.slots) id → id < limit) → NoneHasCorner s.slots inside
    → ((id : ℕ) → id < limit → flag_at flags id ≡ not (inside id)) → outside ≡ flags
    → (facets given : List (List ℕ)) → given ≡ facets → IsSortedCut s.slots outside facets → AreFound s inside given
found s store inside flags outside limit below none turned flags_are facets given same cut =
    subst (AreFound s inside) (sym same)
    (record {
      are_cut = are_cut_facets (vertices_of s) s.slots store.linked few outside facets cut inside flagged;
      faces = are_faces (vertices_of s) s.slots store.linked few outside facets cut;
      closed =
          subst IsClosed (sym cut.facets_are)
          (closed_sides (vertices_of s) s.slots store.linked outside (none_flagged s.slots inside outside none flagged)
          cut.sides cut.are_cut);
    })
  where
    few : length s.points ≤ 2 ^ 32
    few = let n = store.vertices.few in omega (arith, n)

    flagged : (x : ℕ) → IsLive (links_of s.slots) x → flag_at outside x ≡ not (inside x)
    flagged x l = ap (λ (list : List Bool). flag_at list x) flags_are ∙ turned x (below x l)

pub mesh_of_facets-requires-clause-facets : goal.mesh_of_facets-requires-clause-facets
mesh_of_facets-requires-clause-facets c =
    let is =
    found c.args.t.now c.facts.ensures (flag_at c.args.inside.now) _ _ _ c.number_limit.ensures.above c.requires
    c.in_ok-outside.ensures c.deref.ensures.value _ _ c.deref-3.ensures.value c.in_ok-facets.ensures in
    subst (λ (points : List Point). IsFaceList (length points) c.deref-3.result.now)
    (sym (c.deref-2.ensures.value ∙ c.in_ok-points.ensures)) is.faces

-- what follows of a mesh of these points and faces
of_both : {E : Type 0} (P Q R : Mesh → Type 0) (result : Result Mesh E) → ((mesh : Mesh) → P mesh → Q mesh → R mesh)
    → IfOk result P → IfOk result Q → IfOk result R
of_both P Q R result so p q = grind arith

pub returns : goal.returns
returns c =
    let is =
    found c.args.t.now c.facts.ensures (flag_at c.args.inside.now) _ _ _ c.number_limit.ensures.above c.requires
    c.in_ok-outside.ensures c.deref.ensures.value _ _ c.deref-3.ensures.value c.in_ok-facets.ensures in
    let points : List Point = c.args.t.now.points in
    let inside : ℕ → Bool = flag_at c.args.inside.now in
    let facets : List (List ℕ) = c.deref-3.result.now in
    let result = c.mesh_of_facets.result in
    let at : c.deref-2.result.now ≡ points = c.deref-2.ensures.value ∙ c.in_ok-points.ensures in
    let points_are : IfOk result (λ mesh. mesh.points.items ≡ (mesh_of points facets).points) =
    subst (λ (places : List Point). IfOk result (λ mesh. mesh.points.items ≡ (mesh_of places facets).points)) at
    c.mesh_of_facets.ensures.points in
    let faces_are : IfOk result (λ mesh. mesh.faces.items ≡ (mesh_of points facets).faces) =
    subst (λ (places : List Point). IfOk result (λ mesh. mesh.faces.items ≡ (mesh_of places facets).faces)) at
    c.mesh_of_facets.ensures.faces in
    record {
      cut =
          of_both (λ mesh. mesh.points.items ≡ (mesh_of points facets).points)
          (λ mesh. mesh.faces.items ≡ (mesh_of points facets).faces) (IsCutMesh points c.args.t.now.slots inside) result
          (λ mesh p f. record { facets = facets; are_cut = is.are_cut; points_are = p; faces_are = f }) points_are faces_are;
      points = λ scene rising test over.
          subst (λ (fs : List (List ℕ)). IfOk result (λ mesh. mesh.points.items ≡ (mesh_of points fs).points))
          (cut_in_scene scene rising c.args.t.now.slots inside test over facets is.are_cut) points_are;
      faces = λ scene rising test over.
          subst (λ (fs : List (List ℕ)). IfOk result (λ mesh. mesh.faces.items ≡ (mesh_of points fs).faces))
          (cut_in_scene scene rising c.args.t.now.slots inside test over facets is.are_cut) faces_are;
      valid = c.mesh_of_facets.ensures.valid;
      rising = c.mesh_of_facets.ensures.rising;
      closed =
          IfOk-weaker result (λ mesh. mesh.faces.items ≡ (mesh_of points facets).faces) (λ mesh. IsClosed mesh.faces.items)
          (λ mesh e. subst IsClosed (sym e) (mesh_closed (length points) points facets is.faces is.closed)) faces_are;
    }
