use Rattle.std.proofs.Common.{◌≡◌, ◌≤◌, ◌<◌, ℕ, get_or}
use Rattle.scan_rows.specs.declared.scan.Seen.{Seen}
use Rattle.scan.proofs.print.end_of_row.Given as goal

abbrev pub invariant-loop-k : goal.invariant-loop-k
invariant-loop-k l = (n : ℕ) (d : Seen) → l.start ≤ n → n < l.k → (get_or l.seen n d).row ≡ l.row
