use Rattle.std.proofs.Common.{None}
use Rattle.line_text.proofs.Rows.{IsReadSoFar}
use Rattle.tile_list.specs.Entries.{entry_line, IsEntry}
use Rattle.tile_list.proofs.read.entries_first.Given as goal

abbrev pub invariant-loop-k : goal.invariant-loop-k
invariant-loop-k l = IsReadSoFar IsEntry entry_line None l.text l.rest l.entries.items l.k 2 l.line
