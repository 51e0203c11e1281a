-- A header line after line, until one ends it.
--
-- The invariant is that what the lines so far make of the header, gone on with at the bytes left, is what is read of the
-- whole. A line that cannot be cut, or that the header's state refuses, is the refusal of the whole (line_refused,
-- step_refused). One that is taken moves the state on (step_goes), one that ends the header gives it with what is behind
-- (step_ends), and past the greatest number of lines the header is too long (lines_over).
use Rattle.std.proofs.Common.{arith}
use Rattle.std.proofs.lemmas.Result.{err_from_is_err_and}
use Rattle.ply_head.specs.Lines.{parts_of}
use Rattle.ply_head.proofs.LoopLemmas.{tail_of_tail, line_refused, step_refused, step_goes, step_ends, lines_over}
use Rattle.ply_head.proofs.read.lines_from.Goals as goal

pub loop-number-preserved : goal.loop-number-preserved
loop-number-preserved c = record {
  head =
      step_goes c.loop-number.number c.loop-number.head c.in-Goes.next (parts_of c.loop-number.rest.now) c.in_ok-line.line.now
      (parts_of c.in_ok-line.behind.now) _ (omega arith) c.in_ok-line.ensures.line (rw c.in-Goes.is at c.in_ok-next.ensures)
      c.loop-number.invariant.head;
  tail = tail_of_tail _ _ _ c.in_ok-line.ensures.tail c.loop-number.invariant.tail;
}

pub returns-in_err-line-clause-head : goal.returns-in_err-line-clause-head
returns-in_err-line-clause-head c =
    let p = err_from_is_err_and c.from_residual.result c.from_residual.ensures.1 in
    rw (p.1, p.2)
    (line_refused c.in_err-line.field-0.0 c.loop-number.number c.loop-number.head (parts_of c.loop-number.rest.now) _
    (omega arith) c.in_err-line.ensures.line c.loop-number.invariant.head)

pub returns-in_err-next-clause-head : goal.returns-in_err-next-clause-head
returns-in_err-next-clause-head c =
    let p = err_from_is_err_and c.from_residual-in_err-next.result c.from_residual-in_err-next.ensures.1 in
    rw (p.1, p.2)
    (step_refused c.in_err-next.field-0.0 c.loop-number.number c.loop-number.head (parts_of c.loop-number.rest.now)
    c.in_ok-line.line.now (parts_of c.in_ok-line.behind.now) _ (omega arith) c.in_ok-line.ensures.line c.in_err-next.ensures
    c.loop-number.invariant.head)

pub returns-in-Ends-clause-head : goal.returns-in-Ends-clause-head
returns-in-Ends-clause-head c =
    step_ends c.loop-number.number c.loop-number.head c.in-Ends.whole (parts_of c.loop-number.rest.now) c.in_ok-line.line.now
    c.in_ok-line.behind.now _ (omega arith) c.in_ok-line.ensures.line (rw c.in-Ends.is at c.in_ok-next.ensures)
    c.loop-number.invariant.head

pub returns-clause-head : goal.returns-clause-head
returns-clause-head c =
    lines_over c.loop-number.number c.loop-number.head c.loop-number.rest.now _ (omega arith) c.loop-number.invariant.head

pub returns-in-Ends-clause-tail : goal.returns-in-Ends-clause-tail
returns-in-Ends-clause-tail c = tail_of_tail _ _ _ c.in_ok-line.ensures.tail c.loop-number.invariant.tail
