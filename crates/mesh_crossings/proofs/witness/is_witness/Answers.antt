use Rattle.std.proofs.Common.{arith}
use Rattle.triangles.proofs.Apart.{on_yes}
use Rattle.mesh_crossings.proofs.Witnessed.{crossed}
use Rattle.mesh_crossings.proofs.witness.is_witness.Goals as goal

pub returns : goal.returns
returns c =
    on_yes c.are_one_point.result
    (λ same.
    crossed c.args.points.now c.args.one c.args.other c.corners_of.result c.corners_of-2.result c.args.u.a c.args.u.b c.args.u.c
    c.args.x.a c.args.x.b c.args.x.c c.corners_of.ensures c.corners_of-2.ensures (omega arith) same
    c.if-not-is_off_common.ensures c.if-not-is_off_common-2.ensures)
    c.are_one_point.ensures
