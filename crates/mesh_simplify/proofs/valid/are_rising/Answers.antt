use Rattle.std.proofs.Common.{arith}
use Rattle.mesh_simplify.proofs.Rising.{all_rising}
use Rattle.mesh_simplify.proofs.valid.are_rising.Goals as goal

pub returns : goal.returns
returns c = all_rising c.args.from.now (λ j l. c.loop-at.invariant j (omega arith))
