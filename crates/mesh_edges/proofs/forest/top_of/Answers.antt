use Rattle.std.proofs.Common.{arith}
use Rattle.mesh_edges.specs.Sets.IsTop.{here, up}
use Rattle.mesh_edges.proofs.forest.top_of.Goals as goal

pub loop-at-init : goal.loop-at-init
loop-at-init c = record { below = omega arith; from = λ t p. p }

pub loop-at-smaller : goal.loop-at-smaller
loop-at-smaller c = omega (arith, c.requires.forest c.loop-at.at (omega arith))

pub loop-at-preserved : goal.loop-at-preserved
loop-at-preserved c =
    record {
      below = omega (arith, c.requires.forest c.loop-at.at (omega arith));
      from = λ t p. c.loop-at.invariant.from t (up p);
    }

pub returns-clause-top : goal.returns-clause-top
returns-clause-top c = c.loop-at.invariant.from c.loop-at.at (here c.loop-at-test.false)
