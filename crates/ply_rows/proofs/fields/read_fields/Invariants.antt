use Rattle.std.proofs.Common.{◌≡◌, ◌≤◌, length, drop}
use Rattle.ply_rows.specs.Rests.{rest_at, fields_of}
use Rattle.ply_rows.proofs.RowLemmas.{with_front}
use Rattle.ply_rows.proofs.FitLemmas.{FitSoFar}
use Rattle.ply_rows.proofs.fields.read_fields.Given as goal

abbrev pub invariant-loop-i : goal.invariant-loop-i
invariant-loop-i l = record {
  most : l.end ≤ length l.body;
  fits : FitSoFar l.kind l.body l.properties l.i l.out.items;
  so_far : with_front l.out.items (fields_of l.row.element l.row.row l.i (drop l.i l.properties) (rest_at l.kind l.body l.end))
      ≡ fields_of l.row.element l.row.row 0 l.properties (rest_at l.kind l.body l.place);
}
