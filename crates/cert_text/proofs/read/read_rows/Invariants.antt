use Rattle.std.proofs.Common.{Some}
use Rattle.line_text.proofs.Rows.{IsReadSoFar}
use Rattle.cert_text.proofs.read.read_rows.Given as goal

abbrev pub invariant-loop-k : goal.invariant-loop-k
invariant-loop-k g l = IsReadSoFar g.R.Row.is_row g.R.Row.line (Some g.R.Row.key) l.text l.rest l.rows.items l.k l.line l.at
