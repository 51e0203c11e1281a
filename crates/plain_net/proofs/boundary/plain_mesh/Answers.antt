-- The mesh of labels from a network's own facets.
--
-- What is cut of the facets by flags and arcs is what the labels cut of the complex (cut_is), and the indices are the
-- corners and then the points. In these words mesh_of_facets asks for a list of faces (cut_is_list) and gives the mesh of
-- the definitions.
use Rattle.std.proofs.Common.{◌≡◌, ◌++◌, ℕ, List, length, IfOk, subst, sym, ◌∙◌}
use Rattle.std.proofs.lemmas.List.{length-append}
use Rattle.geo_sign.specs.Point.{Point}
use Rattle.geo_sign.specs.Vertices.{corners, boxed_vertices}
use Rattle.mesh.specs.Meshes.{mesh_of, IsFaceList}
use Rattle.visibility.specs.Laws.{test_of}
use Rattle.plain_net.specs.CutRows.{facets_cut}
use Rattle.plain_net.proofs.CutFacets.{cut_is, cut_is_list}
use Rattle.plain_net.proofs.boundary.plain_mesh.Goals as goal

pub mesh_of_facets-requires-clause-facets : goal.mesh_of_facets-requires-clause-facets
mesh_of_facets-requires-clause-facets c =
    let indices : c.deref-2.result.now ≡ corners ++ c.args.points.now = c.deref-2.ensures.value ∙ c.in_ok-indices.ensures in
    let cut : c.deref-3.result.now ≡ facets_cut c.args.points.now c.args.voted.now c.args.labels.now =
    c.deref-3.ensures.value
    ∙ cut_is (boxed_vertices c.args.points.now) c.args.voted.now c.args.labels.now.inside _ _ _ _ c.requires.network
    c.requires.labels.count (c.deref.ensures.value ∙ c.in_ok-arcs.ensures) c.as_slice.ensures c.as_slice-2.ensures c.in_ok-cut.ensures in
    subst (λ (ps : List Point). IsFaceList (length ps) c.deref-3.result.now) (sym indices)
    (subst (IsFaceList (length (corners ++ c.args.points.now))) (sym cut)
    (counted c.args.points.now _
    (cut_is_list (boxed_vertices c.args.points.now) c.args.voted.now (test_of c.args.voted.now.cells c.args.labels.now.inside)
    c.requires.network)))
  where
    counted : (points : List Point) (facets : List (List ℕ)) → IsFaceList (boxed_vertices points).count facets
        → IsFaceList (length (corners ++ points)) facets
    counted points facets h = subst (λ (n : ℕ). IsFaceList n facets) (sym (length-append corners points)) h

pub returns : goal.returns
returns c =
    let result = c.mesh_of_facets.result in
    let places : List Point = corners ++ c.args.points.now in
    let found : List (List ℕ) = c.deref-3.result.now in
    let indices : c.deref-2.result.now ≡ places = c.deref-2.ensures.value ∙ c.in_ok-indices.ensures in
    let cut : found ≡ facets_cut c.args.points.now c.args.voted.now c.args.labels.now =
    c.deref-3.ensures.value
    ∙ cut_is (boxed_vertices c.args.points.now) c.args.voted.now c.args.labels.now.inside _ _ _ _ c.requires.network
    c.requires.labels.count (c.deref.ensures.value ∙ c.in_ok-arcs.ensures) c.as_slice.ensures c.as_slice-2.ensures c.in_ok-cut.ensures in
    record {
      points =
          subst (λ (fs : List (List ℕ)). IfOk result (λ mesh. mesh.points.items ≡ (mesh_of places fs).points)) cut
          (subst (λ (ps : List Point). IfOk result (λ mesh. mesh.points.items ≡ (mesh_of ps found).points)) indices
          c.mesh_of_facets.ensures.points);
      faces =
          subst (λ (fs : List (List ℕ)). IfOk result (λ mesh. mesh.faces.items ≡ (mesh_of places fs).faces)) cut
          (subst (λ (ps : List Point). IfOk result (λ mesh. mesh.faces.items ≡ (mesh_of ps found).faces)) indices
          c.mesh_of_facets.ensures.faces);
      valid = c.mesh_of_facets.ensures.valid;
      rising = c.mesh_of_facets.ensures.rising;
    }
