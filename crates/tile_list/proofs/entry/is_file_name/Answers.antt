use Rattle.std.proofs.Common.{arith}
use Rattle.tile_list.proofs.Forms.{named}
use Rattle.tile_list.proofs.entry.is_file_name.Goals as goal

pub returns-clause-yes : goal.returns-clause-yes
returns-clause-yes c =
    named c.args.name.now c.is_empty.result c.are_name_bytes.result c.is_empty.ensures c.if-is_empty.false
    (omega (arith, c.if-name-gt255.false)) c.if-name-eq46.false c.are_name_bytes.ensures
