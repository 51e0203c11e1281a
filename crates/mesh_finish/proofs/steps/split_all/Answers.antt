use Rattle.geo_sign.specs.declared.point.TheConstants.{BOX_LIMIT}
use Rattle.mesh_pieces.proofs.Boxed.{copies_boxed}
use Rattle.mesh_finish.proofs.steps.split_all.Goals as goal

pub returns-clause-boxed : goal.returns-clause-boxed
returns-clause-boxed c = λ boxed. copies_boxed BOX_LIMIT _ _ _ _ _ c.in_ok-new.ensures.split.copy boxed
