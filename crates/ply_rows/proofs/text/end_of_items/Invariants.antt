use Rattle.std.proofs.Common.{◌≤◌, length}
use Rattle.ply_rows.specs.Tokens.{tokens_at}
use Rattle.ply_rows.proofs.ItemLemmas.{AreRead}
use Rattle.ply_rows.proofs.text.end_of_items.Given as goal

abbrev pub invariant-loop : goal.invariant-loop
invariant-loop l = record {
  least : l.place ≤ l.end;
  most : l.end ≤ length l.body;
  read : AreRead (tokens_at l.body l.place) (tokens_at l.body l.end) l.place l.counter l.end;
}
