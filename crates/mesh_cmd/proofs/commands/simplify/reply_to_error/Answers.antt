use Rattle.std.proofs.Common.{subst}
use Rattle.mesh_simplify.specs.Simplified.{ExplainsSimplify}
use Rattle.mesh_cmd.proofs.Simplifying.{says_open}
use Rattle.mesh_cmd.proofs.commands.simplify.reply_to_error.Goals as goal

pub returns-in_ok-line-in-NotClosed : goal.returns-in_ok-line-in-NotClosed
returns-in_ok-line-in-NotClosed c = λ mesh why.
    let e = c.in-NotClosed.edge in
    says_open mesh _ c.in_ok-line-in-NotClosed.line.items e.from e.to e.there e.back
    (subst (ExplainsSimplify mesh.faces) c.in-NotClosed.is why) c.in_ok-line-in-NotClosed.ensures (c.invalid_input.ensures 1)
