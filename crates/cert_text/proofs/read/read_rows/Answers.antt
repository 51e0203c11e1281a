use Rattle.std.proofs.Common.{Some, arith}
use Rattle.line_text.proofs.Rows.{one_more_read_at, pushed, bad_row, row_out_of_order_at}
use Rattle.cert_text.proofs.read.read_rows.Goals as goal

pub returns-in-None-clause-refused : goal.returns-in-None-clause-refused
returns-in-None-clause-refused g c = grind (arith, bad_row)

pub returns-then-not-rises-clause-refused : goal.returns-then-not-rises-clause-refused
returns-then-not-rises-clause-refused g c =
    row_out_of_order_at g.R.Row.is_row g.R.Row.line (Some g.R.Row.key) c.args.text.now c.loop-k.rest.now c.in-Some.read.1.now
    c.loop-k.rows.items c.deref.result.now c.in-Some.read.0 c.args.count c.loop-k.k c.args.line c.loop-k.at
    c.loop-k.invariant c.loop-k-test.true c.in-Some.ensures.some.0 c.in-Some.ensures.some.1 c.deref.ensures.value
    c.if-not-rises.ensures.no

pub loop-k-preserved : goal.loop-k-preserved
loop-k-preserved g c =
    one_more_read_at g.R.Row.is_row g.R.Row.line (Some g.R.Row.key) c.args.text.now c.loop-k.rest.now c.in-Some.read.1.now
    c.loop-k.rows.items c.deref.result.now c.push.new.self.items c.in-Some.read.0 c.loop-k.k c.args.line c.loop-k.at
    c.saturating_add-at.result
    c.loop-k.invariant c.in-Some.ensures.some.0 c.in-Some.ensures.some.1 c.deref.ensures.value c.if-not-rises.ensures.yes
    (pushed c.push.result c.push.new.self.items c.loop-k.rows.items c.in-Some.read.0 c.if-is_err.ensures.value
    c.push.ensures.items) c.saturating_add-at.ensures
