use Rattle.std.proofs.Common.{arith}
use Rattle.mesh_edges.specs.Sets.IsTop.{here, up}
use Rattle.mesh_edges.proofs.forest.first_after.Goals as goal

pub returns-then-parent-i-clause-top : goal.returns-then-parent-i-clause-top
returns-then-parent-i-clause-top c = here c.if-parent-i.true

pub returns-clause-top : goal.returns-clause-top
returns-clause-top c =
    let le = c.requires.forest c.args.i c.requires.within in
    up (c.requires.tops _ (omega (arith, le, c.if-parent-i.false)))
