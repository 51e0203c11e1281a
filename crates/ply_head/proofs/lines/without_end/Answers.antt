use Rattle.std.proofs.Common.{arith, ◌-◌, length}
use Rattle.ply_head.proofs.HeadLemmas.{return_cut, no_return, empty_text}
use Rattle.ply_head.proofs.lines.without_end.Goals as goal
use Rattle.ply_head.proofs.lines.without_end.Goals.{else-length-gt0-via-then-length-gt0+else-line-length-eq13}
use Rattle.ply_head.proofs.lines.without_end.Goals.{else-length-gt0-via-else-length-gt0}

pub returns-then-line-length-eq13 : goal.returns-then-line-length-eq13
returns-then-line-length-eq13 c =
    return_cut c.args.line.now (length c.args.line.now - 1) (omega arith) c.if-line-length-eq13.true

pub returns-else-length-gt0 : goal.returns-else-length-gt0
returns-else-length-gt0 c =
    elim c.else-length-gt0.branch [
      | else-length-gt0-via-then-length-gt0+else-line-length-eq13 w ↦
          no_return c.args.line.now (length c.args.line.now - 1) (omega arith) w.if-line-length-eq13.false
      | else-length-gt0-via-else-length-gt0 w ↦ empty_text c.args.line.now (omega arith)
    ]
