use Rattle.std.proofs.Common.{◌≡◌, drop}
use Rattle.ply_rows.specs.Rests.{Rest}
use Rattle.ply_rows.specs.Bodies.{rows_from}
use Rattle.ply_rows.proofs.rows.next_element.Given as goal

abbrev pub invariant-loop-i : goal.invariant-loop-i
invariant-loop-i l =
    (rest : Rest)
    → rows_from (drop l.i l.elements) l.i l.row rest ≡ rows_from (drop l.element l.elements) l.element l.fn.row rest
