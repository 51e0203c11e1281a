use Rattle.line_text.proofs.Kept.{OnErr-holds}
use Rattle.sweep.proofs.Handings.{entry_of, front_of}
use Rattle.sweep.proofs.handing.hand_surface.Goals as goal

pub returns-in_err-drive-clause-front : goal.returns-in_err-drive-clause-front
returns-in_err-drive-clause-front g c =
    OnErr-holds _ _ (front_of c.args.sweep.now c.in_ok-mesh.mesh _ c.in_ok-mesh.ensures.surface c.in_err-drive.ensures.prefix)

pub returns-clause-all : goal.returns-clause-all
returns-clause-all g c = entry_of c.args.sweep.now c.in_ok-mesh.mesh _ c.in_ok-mesh.ensures.surface c.in_ok-drive.ensures.all
