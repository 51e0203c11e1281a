-- The step of a cut face is on the edge on which the face goes up.
--
-- A cut face has such an edge, so there is one to unwrap (up_edge_at), its ends are points of the mesh (edge_within), below
-- and above the height: what step_on asks for. What that gives is the step, once the height, read from 32 bits, is put in
-- for the number that it is (stored).
use Rattle.std.proofs.Common.{ℕ, ◌≡◌, ◌∙◌, ap, sym, subst, arith, List, [], length, ℤ, to_z, of_z}
use mir.Syntax.{w32}
use Rattle.std.proofs.lemmas.Int.{ints}
use Rattle.geo_sign.specs.Point.{Point}
use Rattle.solid_slice.specs.Cuts.{is_above, IsUpEdge, rise, at_height}
use Rattle.mesh_edges.specs.Edges.{face_at}
use Rattle.mesh.specs.Meshes.{point_at}
use Rattle.mesh_edges.proofs.FaceEdges.{edge_within}
use Rattle.solid_slice.proofs.Crossed.{cut_within, up_edge_at}
use Rattle.solid_slice.proofs.height.step_of.Goals as goal

pub step_on-requires : goal.step_on-requires
step_on-requires c =
    let points = c.args.mesh.now.points.items in
    let faces = c.args.mesh.now.faces.items in
    let stored : to_z w32 (of_z w32 c.args.height) ≡ c.args.height = omega (arith, ints) in
    let up =
    up_edge_at points c.deref.result.now faces c.args.height _ c.args.face c.index.result.now c.up_edge.result
    c.unwrap-edge.result c.requires.cut c.deref.ensures.value stored c.index.ensures c.unwrap-edge.ensures
    c.up_edge.ensures.some in
    let o = c.requires.valid.each c.args.face [] (cut_within points faces c.args.height c.args.face c.requires.cut) in
    let within =
    edge_within (length points) c.unwrap-edge.result.first c.unwrap-edge.result.second (face_at faces c.args.face) o up.edge in
    let size = ap (λ (t : List Point). length t) c.deref-2.ensures.value in
    record {
      lower = omega (arith, within.0, size);
      upper = omega (arith, within.1, size);
      from_below =
          ap (λ (t : List Point). is_above t (to_z w32 (of_z w32 c.args.height)) c.unwrap-edge.result.first)
          c.deref-2.ensures.value ∙ (ap (λ (z : ℤ). is_above points z c.unwrap-edge.result.first) stored ∙ up.from_below);
      to_above =
          ap (λ (t : List Point). is_above t (to_z w32 (of_z w32 c.args.height)) c.unwrap-edge.result.second)
          c.deref-2.ensures.value ∙ (ap (λ (z : ℤ). is_above points z c.unwrap-edge.result.second) stored ∙ up.to_above);
    }

pub returns-clause-step : goal.returns-clause-step
returns-clause-step c =
    let points = c.args.mesh.now.points.items in
    let faces = c.args.mesh.now.faces.items in
    let stored : to_z w32 (of_z w32 c.args.height) ≡ c.args.height = omega (arith, ints) in
    let up =
    up_edge_at points c.deref.result.now faces c.args.height _ c.args.face c.index.result.now c.up_edge.result
    c.unwrap-edge.result c.requires.cut c.deref.ensures.value stored c.index.ensures c.unwrap-edge.ensures
    c.up_edge.ensures.some in
    let l = c.unwrap-edge.result.first in
    let u = c.unwrap-edge.result.second in
    let s = c.step_on.result in
    let kept = to_z w32 (of_z w32 c.args.height) in
    record {
      lower = l;
      upper = u;
      up = subst (λ (f : ℕ). IsUpEdge points c.args.height (face_at faces f) l u) (sym c.step_on.ensures.face) up;
      x =
          subst (λ (z : ℤ). s.x ≡ at_height z (point_at points l) (point_at points u) (point_at points l).x (point_at points u).x)
          stored
          (subst (λ (ps : List Point). s.x ≡ at_height kept (point_at ps l) (point_at ps u) (point_at ps l).x (point_at ps u).x)
          c.deref-2.ensures.value c.step_on.ensures.x);
      y =
          subst (λ (z : ℤ). s.y ≡ at_height z (point_at points l) (point_at points u) (point_at points l).y (point_at points u).y)
          stored
          (subst (λ (ps : List Point). s.y ≡ at_height kept (point_at ps l) (point_at ps u) (point_at ps l).y (point_at ps u).y)
          c.deref-2.ensures.value c.step_on.ensures.y);
      d = subst (λ (ps : List Point). s.d ≡ rise (point_at ps l) (point_at ps u)) c.deref-2.ensures.value c.step_on.ensures.d;
    }
