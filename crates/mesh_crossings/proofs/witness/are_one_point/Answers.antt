use Rattle.std.proofs.Common.{◌≡◌, rules}
use Rattle.triangles.specs.Shared.{weighted_sum}
use Rattle.triangles.proofs.Apart.{on_yes}
use Rattle.mesh_crossings.proofs.Witnessed.{point_same, read_same}
use Rattle.mesh_crossings.proofs.witness.are_one_point.Goals as goal

pub returns : goal.returns
returns c =
    let f = c.args.f.now in
    let g = c.args.g.now in
    let u = c.args.u in
    let x = c.args.x in
    let on_x : weighted_sum f.a.x f.b.x f.c.x u.a u.b u.c ≡ weighted_sum g.a.x g.b.x g.c.x x.a x.b x.c =
    read_same u.a u.b u.c x.a x.b x.c c.sum_on-sum.result c.x.result c.x-2.result c.x-3.result c.x-4.result c.x-5.result c.x-6.result _ _ _ _ _ _
    (search rules) (search rules) (search rules) (search rules) (search rules) (search rules) (search rules) c.x.ensures c.x-2.ensures
    c.x-3.ensures c.x-4.ensures c.x-5.ensures c.x-6.ensures c.sum_on-sum.ensures c.if-not-is_sum_on.ensures in
    let on_y : weighted_sum f.a.y f.b.y f.c.y u.a u.b u.c ≡ weighted_sum g.a.y g.b.y g.c.y x.a x.b x.c =
    read_same u.a u.b u.c x.a x.b x.c c.sum_on-sum-2.result c.y.result c.y-2.result c.y-3.result c.y-4.result c.y-5.result c.y-6.result _ _ _ _ _ _
    (search rules) (search rules) (search rules) (search rules) (search rules) (search rules) (search rules) c.y.ensures c.y-2.ensures
    c.y-3.ensures c.y-4.ensures c.y-5.ensures c.y-6.ensures c.sum_on-sum-2.ensures c.if-not-is_sum_on-2.ensures in
    on_yes c.is_sum_on-3.result
    (λ z_same.
    point_same _ _ _ _ _ _ on_x on_y
    (read_same u.a u.b u.c x.a x.b x.c c.sum_on-sum-3.result c.z.result c.z-2.result c.z-3.result c.z-4.result c.z-5.result c.z-6.result f.a.z f.b.z
    f.c.z g.a.z g.b.z g.c.z (search rules) (search rules) (search rules) (search rules) (search rules) (search rules) (search rules)
    c.z.ensures c.z-2.ensures c.z-3.ensures c.z-4.ensures c.z-5.ensures c.z-6.ensures c.sum_on-sum-3.ensures z_same))
    c.is_sum_on-3.ensures
