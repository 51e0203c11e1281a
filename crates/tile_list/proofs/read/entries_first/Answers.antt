use Rattle.std.proofs.Common.{None, refl}
use Rattle.line_text.proofs.Rows.{one_more_read_at, pushed, bad_row}
use Rattle.tile_list.specs.Entries.{entry_line, IsEntry}
use Rattle.tile_list.proofs.read.entries_first.Goals as goal

pub returns-in-None-clause-refused : goal.returns-in-None-clause-refused
returns-in-None-clause-refused c =
    bad_row IsEntry entry_line None _ _ _ _ _ _ _ _ c.loop-k.invariant c.loop-k-test.true c.in-None.ensures.none
    c.refusal_of.ensures

pub loop-k-preserved : goal.loop-k-preserved
loop-k-preserved c =
    one_more_read_at IsEntry entry_line None c.args.text.now c.loop-k.rest.now c.in-Some.read.1.now c.loop-k.entries.items
    c.loop-k.entries.items c.push.new.self.items c.in-Some.read.0 c.loop-k.k 2 c.loop-k.line c.saturating_add-line.result
    c.loop-k.invariant c.in-Some.ensures.some.0 c.in-Some.ensures.some.1 refl tt
    (pushed c.push.result c.push.new.self.items c.loop-k.entries.items c.in-Some.read.0 c.if-is_err.ensures.value
    c.push.ensures.items) c.saturating_add-line.ensures
