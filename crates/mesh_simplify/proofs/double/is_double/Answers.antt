use Rattle.std.proofs.Common.{ℕ, ◌≤◌, [], sym, ◌∙◌, arith}
use Rattle.std.proofs.lemmas.Bool.{OnTrue_from}
use Rattle.mesh_edges.specs.Edges.{has_edge, faces_with_edge}
use Rattle.mesh_pieces.specs.Splits.{AreSingle}
use Rattle.mesh_simplify.proofs.Twice.{twice}
use Rattle.mesh_simplify.proofs.double.is_double.Goals as goal

pub returns : goal.returns
returns c =
    let faces = c.args.faces.now in
    let u = c.args.u in
    let v = c.args.v in
    OnTrue_from c.has_side-2.result (¬ AreSingle faces)
    (λ yes. λ single.
    let two : 2 ≤ faces_with_edge u v faces =
    twice (has_edge u v) faces [] c.args.i c.args.j c.if-i-j.false c.if-j-faces.false
    (sym c.has_side.ensures ∙ c.if-not-has_side.false) (sym c.has_side-2.ensures ∙ yes) in
    omega (arith, single u v))
