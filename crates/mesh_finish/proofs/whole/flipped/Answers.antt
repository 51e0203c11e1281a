use Rattle.std.proofs.Common.{Bool, sym, subst}
use Rattle.mesh_finish.specs.Steps.{AreFlippedIf}
use Rattle.mesh_finish.proofs.whole.flipped.Goals as goal

pub returns-clause-flips : goal.returns-clause-flips
returns-clause-flips c =
    subst (λ (b : Bool). AreFlippedIf b c.args.mesh.points.items c.args.mesh.faces.items c.in_ok-new.new.faces.items)
    (sym c.if-not-flips.false) c.in_ok-new.ensures.finished
