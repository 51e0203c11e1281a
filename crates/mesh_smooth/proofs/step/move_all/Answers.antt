use Rattle.std.proofs.Common.{arith, subst, sym}
use Rattle.geo_sign.specs.Point.{Point}
use Rattle.mesh.specs.Meshes.{point_at}
use Rattle.mesh_smooth.specs.Near.{IsNear}
use Rattle.mesh_smooth.proofs.Shapes.{near_set}
use Rattle.mesh_smooth.proofs.step.move_all.Goals as goal

pub next_place-requires : goal.next_place-requires
next_place-requires c =
    subst (λ (p : Point). IsNear p c.point-before.result c.args.within) (sym c.point-start.ensures)
    (subst (λ (p : Point). IsNear (point_at c.args.home.now c.loop-v.v) p c.args.within) (sym c.point-before.ensures)
    (c.loop-v.invariant.near c.loop-v.v (omega arith)))

pub loop-v-preserved : goal.loop-v-preserved
loop-v-preserved c =
    near_set c.args.home.now c.loop-v.points c.args.within c.loop-v.v c.next_place.result c.loop-v.invariant (omega arith)
    (subst (λ (p : Point). IsNear p c.next_place.result c.args.within) c.point-start.ensures c.next_place.ensures)
