use Rattle.std.proofs.Common.{sym, subst, ◌∙◌}
use Rattle.geo_sign.specs.Point.{Point, IsWithin}
use Rattle.geo_sign.specs.declared.point.TheConstants.{BOX_LIMIT}
use Rattle.geo_sign.proofs.Bounds.{same_place}
use Rattle.mesh_smooth.specs.Smoothed.{magnified}
use Rattle.mesh_smooth.proofs.Scales.{magnified_within, coordinate}
use Rattle.mesh_smooth.proofs.fine_grid.magnified_point.Goals as goal

pub returns-in-Some : goal.returns-in-Some
returns-in-Some c =
    let k = c.args.fine in
    let p = c.args.p in
    let box : IsWithin BOX_LIMIT p = c.facts.ensures in
    let w : IsWithin BOX_LIMIT (magnified k p) = magnified_within k c.args.reach BOX_LIMIT p c.requires.within c.requires.bound in
    c.in-Some.ensures.some.0
    ∙ same_place _ _ _ _ _ _ (coordinate k p.x c.x.result c.magnified_number-x.result c.magnified_number-x.ensures c.x.ensures box.x_within w.x_within)
    (coordinate k p.y c.y.result c.magnified_number-y.result c.magnified_number-y.ensures c.y.ensures box.y_within w.y_within)
    (coordinate k p.z c.z.result c.magnified_number-z.result c.magnified_number-z.ensures c.z.ensures box.z_within w.z_within)

pub returns-in-None : goal.returns-in-None
returns-in-None c =
    let k = c.args.fine in
    let p = c.args.p in
    let box : IsWithin BOX_LIMIT p = c.facts.ensures in
    let w : IsWithin BOX_LIMIT (magnified k p) = magnified_within k c.args.reach BOX_LIMIT p c.requires.within c.requires.bound in
    absurd
    (c.in-None.ensures.none
    (subst (λ (q : Point). IsWithin BOX_LIMIT q)
    (sym (same_place _ _ _ _ _ _ (coordinate k p.x c.x.result c.magnified_number-x.result c.magnified_number-x.ensures c.x.ensures box.x_within w.x_within)
    (coordinate k p.y c.y.result c.magnified_number-y.result c.magnified_number-y.ensures c.y.ensures box.y_within w.y_within)
    (coordinate k p.z c.z.result c.magnified_number-z.result c.magnified_number-z.ensures c.z.ensures box.z_within w.z_within))) w))
