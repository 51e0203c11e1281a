use Rattle.geo_sign.specs.declared.point.TheConstants.{BOX_LIMIT}
use Rattle.mesh_pieces.proofs.Boxed.{copies_boxed}
use Rattle.mesh_finish.proofs.steps.keep.Goals as goal

pub returns-in-Ok-clause-boxed : goal.returns-in-Ok-clause-boxed
returns-in-Ok-clause-boxed c = λ boxed. copies_boxed BOX_LIMIT _ _ _ _ _ c.in-Ok.ensures.pieces.copy boxed
