use Rattle.line_text.proofs.Kept.{IfNone-holds}
use Rattle.line_text.proofs.Codes.{none_fewer}
use Rattle.geo_sign.specs.Point.{IsWithin}
use Rattle.mesh_ply.specs.Texts.{point_line}
use Rattle.mesh_ply.proofs.MeshForms.{no_second, no_third, point_is, own_place}
use Rattle.cert_text.proofs.StampRefused.{no_data}
use Rattle.geo_sign.specs.declared.point.TheConstants.{BOX_LIMIT, DATA_LIMIT}
use Rattle.geo_sign.proofs.Bounds.{data_in_box}
use Rattle.cert_text.proofs.stamp_read.data_first.Goals as goal

pub returns-in_err-y-clause-none : goal.returns-in_err-y-clause-none
returns-in_err-y-clause-none c =
    IfNone-holds _ _
    (none_fewer (IsWithin DATA_LIMIT) (IsWithin BOX_LIMIT) point_line _ data_in_box
    (no_second c.args.text.now c.in_ok-x.rest.now c.in_ok-x.x c.in_ok-x.ensures.some.0 c.in_ok-x.ensures.some.1
    c.in_err-y.ensures.none))

pub returns-in_err-z-clause-none : goal.returns-in_err-z-clause-none
returns-in_err-z-clause-none c =
    IfNone-holds _ _ (none_fewer (IsWithin DATA_LIMIT) (IsWithin BOX_LIMIT) point_line _ data_in_box
    (no_third c.args.text.now c.in_ok-x.rest.now c.in_ok-y.rest.now c.in_ok-x.x c.in_ok-y.y c.in_ok-x.ensures.some.0
    c.in_ok-y.ensures.some.0 c.in_ok-x.ensures.some.1 c.in_ok-y.ensures.some.1 c.in_err-z.ensures.none))

pub returns-in_err-point-clause-none : goal.returns-in_err-point-clause-none
returns-in_err-point-clause-none c =
    IfNone-holds _ _
    (no_data _ _ _ _ c.in_ok-x.x c.in_ok-y.y c.in_ok-z.z c.in_ok-x.ensures.some.0 c.in_ok-y.ensures.some.0
    c.in_ok-z.ensures.some.0 c.in_ok-x.ensures.some.1 c.in_ok-y.ensures.some.1 c.in_ok-z.ensures.some.1
    c.in_err-point.ensures.none)

pub returns-clause-some : goal.returns-clause-some
returns-clause-some c = (
  c.in_ok-point.ensures.some.1,
  point_is c.in_ok-point.point c.in_ok-x.x c.in_ok-y.y c.in_ok-z.z _ _ _ _
      (own_place _ _ _ _ c.in_ok-x.ensures.some.0 c.in_ok-y.ensures.some.0 c.in_ok-z.ensures.some.0
      c.in_ok-point.ensures.some.0) c.in_ok-x.ensures.some.1 c.in_ok-y.ensures.some.1 c.in_ok-z.ensures.some.1,
)
