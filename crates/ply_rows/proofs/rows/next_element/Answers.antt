use Rattle.std.proofs.Common.{◌≡◌, ◌∙◌, arith, length}
use Rattle.ply_rows.proofs.ElementLemmas.{passed_empty, passed_over}
use Rattle.ply_rows.proofs.rows.next_element.Goals as goal
use Rattle.ply_rows.proofs.rows.next_element.Goals.{else-row-next-via-then-row-next+else-not-is_empty}
use Rattle.ply_rows.proofs.rows.next_element.Goals.{else-row-next-via-else-row-next}

pub loop-i-preserved : goal.loop-i-preserved
loop-i-preserved c tokens =
    elim c.else-row-next.branch [
      | else-row-next-via-then-row-next+else-not-is_empty w ↦
          let none : length c.index-elements-i.result.properties ≡ 0 = grind arith in
          passed_empty c.as_slice-elements.result.now c.loop-i.i c.loop-i.row c.index-elements-i.result tokens
          c.loop-i-test.true c.index-elements-i.is none ∙ c.loop-i.invariant tokens
      | else-row-next-via-else-row-next w ↦
          passed_over c.as_slice-elements.result.now c.loop-i.i c.loop-i.row c.index-elements-i.result tokens c.loop-i-test.true
          c.index-elements-i.is w.if-row-next.false ∙ c.loop-i.invariant tokens
    ]
