use Rattle.mesh_check.proofs.Measured.{square_read, near_exactly}
use Rattle.mesh_check.proofs.near.is_near.Goals as goal

pub returns : goal.returns
returns c =
    let fine = c.args.fine in
    let home = c.args.home in
    let p = c.args.p in
    near_exactly fine c.args.within c.squared_gap-x.result c.squared_gap-y.result c.squared_gap-z.result c.squared_reach.result home p
    (square_read fine c.squared_gap-x.result home.x p.x c.x.result c.x-2.result c.squared_gap-x.ensures.value c.x.ensures
    c.x-2.ensures c.facts.ensures.x_within c.facts-2.ensures.x_within)
    (square_read fine c.squared_gap-y.result home.y p.y c.y.result c.y-2.result c.squared_gap-y.ensures.value c.y.ensures
    c.y-2.ensures c.facts.ensures.y_within c.facts-2.ensures.y_within)
    (square_read fine c.squared_gap-z.result home.z p.z c.z.result c.z-2.result c.squared_gap-z.ensures.value c.z.ensures
    c.z-2.ensures c.facts.ensures.z_within c.facts-2.ensures.z_within)
    c.squared_reach.ensures
