use Rattle.std.proofs.Common.{◌≡◌, ◌≤◌, false, take, All}
use Rattle.ply_head.specs.Lines.{is_line_feed}
use Rattle.ply_head.proofs.lines.line_of.Given as goal

abbrev pub invariant-loop-position : goal.invariant-loop-position
invariant-loop-position l = record {
  no_feed : All (λ x. is_line_feed x ≡ false) (take l.position l.bytes);
  short : l.position ≤ 1002;
}
