use Rattle.line_text.proofs.Rows.{some_left}
use Rattle.tile_list.proofs.Forms.{at_end}
use Rattle.tile_list.proofs.read.read_tiles.Goals as goal

pub returns-then-not-is_empty-clause-refused : goal.returns-then-not-is_empty-clause-refused
returns-then-not-is_empty-clause-refused c =
    at_end c.in_ok-count.count c.args.text.now c.in_ok-count.rest.now c.in_ok-entries.rest.now c.in_ok-entries.entries.items
    c.in_ok-count.ensures.ok.0 c.in_ok-count.ensures.ok.1 c.in_ok-entries.ensures.ok.0 c.in_ok-entries.ensures.ok.1
    (some_left c.in_ok-entries.rest.now c.is_empty.result c.is_empty.ensures c.if-not-is_empty.true)
