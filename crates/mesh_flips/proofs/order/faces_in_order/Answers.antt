-- Lists are passed as slices, so what is said of these is first said of the lists.
use Rattle.std.proofs.Common.{ℕ, ◌≡◌, ap, sym, ◌∙◌, List, length, map, subst}
use Rattle.std.specs.List.{All}
use Rattle.geo_sign.specs.Point.{Point}
use Rattle.mesh_edges.specs.Edges.{face_at}
use Rattle.mesh_flips.specs.Fields.{IsReady}
use Rattle.mesh_flips.specs.Orders.{Covers}
use Rattle.mesh_flips.specs.Turns.{IsTriangle}
use Rattle.mesh_flips.proofs.Ordered.{sorted_triangles}
use Rattle.mesh_flips.proofs.order.faces_in_order.Goals as goal

pub tree_of-requires-clause-each : goal.tree_of-requires-clause-each
tree_of-requires-clause-each c =
    let points = c.args.mesh.now.points.items in
    let faces = c.args.mesh.now.faces.items in
    let numbers = c.in_ok-numbers.numbers.items in
    let covers : Covers (length faces) numbers =
    subst (λ (fs : List (List ℕ)). Covers (length fs) numbers) c.deref-2.ensures.value c.in_ok-numbers.ensures in
    let sorted : c.deref-6.result.now ≡ map (face_at faces) numbers =
    c.deref-6.ensures.value
    ∙ (c.in_ok-faces.ensures
    ∙ (ap (λ (fs : List (List ℕ)). map (face_at fs) c.deref-4.result.now) c.deref-3.ensures.value
    ∙ ap (map (face_at faces)) c.deref-4.ensures.value)) in
    subst (λ (ps : List Point). All (IsTriangle (length ps)) c.deref-6.result.now) (sym c.deref-5.ensures.value)
    (sorted_triangles (length points) faces c.deref-6.result.now numbers sorted covers.below c.requires.each)

pub returns : goal.returns
returns c =
    let faces = c.args.mesh.now.faces.items in
    let ordered = c.in_ok-faces.faces.items in
    record {
      covers =
          subst (λ (fs : List (List ℕ)). Covers (length fs) c.in_ok-numbers.numbers.items) c.deref-2.ensures.value c.in_ok-numbers.ensures;
      by_number =
          c.in_ok-faces.ensures
          ∙ (ap (λ (fs : List (List ℕ)). map (face_at fs) c.deref-4.result.now) c.deref-3.ensures.value
          ∙ ap (map (face_at faces)) c.deref-4.ensures.value);
      ready =
          subst (λ (ps : List Point). IsReady ps ordered c.in_ok-tree.tree) c.deref-5.ensures.value
          (subst (λ (fs : List (List ℕ)). IsReady c.deref-5.result.now fs c.in_ok-tree.tree) c.deref-6.ensures.value c.in_ok-tree.ensures);
    }
