use Rattle.std.proofs.Common.{◌≡◌, None}
use Rattle.ply_head.specs.Lines.{parts_of}
use Rattle.ply_head.specs.Headers.{header_from}
use Rattle.ply_head.specs.Reading.{IsEndOf}
use Rattle.ply_head.proofs.read.lines_from.Given as goal

abbrev pub invariant-loop-number : goal.invariant-loop-number
invariant-loop-number l = record {
  head : header_from l.number l.head (parts_of l.rest) ≡ header_from 2 None (parts_of l.bytes);
  tail : IsEndOf l.rest l.bytes;
}
