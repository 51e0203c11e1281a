use Rattle.std.proofs.Common.{arith}
use Rattle.triangles.proofs.Overs.{over_itself, over_half}
use Rattle.triangles.proofs.Growth.{insert_more}
use Rattle.triangles.proofs.near.grow.Goals as goal

pub loop-init : goal.loop-init
loop-init c = record { over = over_itself _; within = omega arith; insert = λ s node l. absurd (omega arith); kept = λ k h held. held }

pub loop-preserved : goal.loop-preserved
loop-preserved c =
    let i = c.loop.invariant in
    record {
      over = over_half _ _ _ i.over;
      within = omega (arith, i.within);
      insert = insert_more _ _ _ _ _ _ i.insert c.widen.ensures.kept i.over c.widen.ensures.insert;
      kept = λ k h held. c.widen.ensures.kept k h (i.kept k h held);
    }

pub returns-clause-insert : goal.returns-clause-insert
returns-clause-insert c = λ s node l over. c.loop.invariant.insert s node (omega arith) over
