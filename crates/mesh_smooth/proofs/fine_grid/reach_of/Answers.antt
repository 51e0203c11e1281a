use Rattle.std.proofs.Common.{ℕ, ◌≡◌, ◌≤◌, ◌*◌, max, unsigned_abs, subst, sym}
use Rattle.mesh_smooth.proofs.GridScales.{absolute, reach_least}
use Rattle.mesh_smooth.proofs.fine_grid.reach_of.Goals as goal

pub returns-clause-least : goal.returns-clause-least
returns-clause-least c k limit within =
    let p = c.args.p in
    let x = absolute c.unsigned_abs.result c.x.result p.x c.unsigned_abs.ensures.value c.x.ensures c.facts.ensures.x_within in
    let y = absolute c.unsigned_abs-2.result c.y.result p.y c.unsigned_abs-2.ensures.value c.y.ensures c.facts.ensures.y_within in
    let z = absolute c.unsigned_abs-3.result c.z.result p.z c.unsigned_abs-3.ensures.value c.z.ensures c.facts.ensures.z_within in
    let greatest : c.max.result ≡ max (max (unsigned_abs p.x) (unsigned_abs p.y)) (unsigned_abs p.z) = cc in
    subst (λ (r : ℕ). k * r ≤ limit) (sym greatest) (reach_least k limit p within)
