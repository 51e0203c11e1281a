-- Four vertices by the sign of their orientation, as the code reads it at their numbers (read_sign).
--
-- Above zero they are a cell as they stand if no vertex is in conflict (form_above). Below zero the last two are
-- exchanged, which turns the sign round (last_exchanged), and the same is asked of that writing (form_below). At zero
-- they are none (form_flat).
use Rattle.std.proofs.Common.{arith}
use Rattle.std.proofs.lemmas.Int.{ints}
use Rattle.geo_sign.specs.declared.sign.Sign.TheVariants.{Neg, Zero, Pos}
use Rattle.geo_tie.specs.Rising.{all_at}
use Rattle.geo_sign.proofs.Own.{last_exchanged}
use Rattle.geo_sign.proofs.SignTests.{positive_of, negative_of, zero_of}
use Rattle.geo_tie.proofs.Forms.{read_sign, form_above, form_below, form_flat}
use Rattle.geo_tie.proofs.cells.are_cell.Goals as goal

pub is_clear-requires-in-Neg-clause-positive : goal.is_clear-requires-in-Neg-clause-positive
is_clear-requires-in-Neg-clause-positive c =
    let below =
    negative_of _
    (read_sign c.args.vertices.now c.args.a c.args.b c.args.c c.args.d _ _ _ _ Neg c.index-vertices-a.is c.index-vertices-b.is
    c.index-vertices-c.is c.index-vertices-d.is (omega arith) (omega arith) (omega arith) (omega arith)
    c.in-Neg.ensures.value) in
    omega (arith, ints, below, last_exchanged (all_at c.args.vertices.now) c.args.a c.args.b c.args.c c.args.d)

pub returns-in-Pos : goal.returns-in-Pos
returns-in-Pos c =
    form_above c.args.vertices.now c.args.a c.args.b c.args.c c.args.d c.is_clear.result (omega arith) (omega arith)
    (omega arith) (omega arith)
    (positive_of _
    (read_sign c.args.vertices.now c.args.a c.args.b c.args.c c.args.d _ _ _ _ Pos c.index-vertices-a.is c.index-vertices-b.is
    c.index-vertices-c.is c.index-vertices-d.is (omega arith) (omega arith) (omega arith) (omega arith) c.in-Pos.ensures.value))
    c.is_clear.ensures

pub returns-in-Zero : goal.returns-in-Zero
returns-in-Zero c =
    form_flat c.args.vertices.now c.args.a c.args.b c.args.c c.args.d
    (zero_of _
    (read_sign c.args.vertices.now c.args.a c.args.b c.args.c c.args.d _ _ _ _ Zero c.index-vertices-a.is c.index-vertices-b.is
    c.index-vertices-c.is c.index-vertices-d.is (omega arith) (omega arith) (omega arith) (omega arith)
    c.in-Zero.ensures.value))

pub returns-in-Neg : goal.returns-in-Neg
returns-in-Neg c =
    form_below c.args.vertices.now c.args.a c.args.b c.args.c c.args.d c.is_clear-in-Neg.result (omega arith) (omega arith)
    (omega arith) (omega arith)
    (negative_of _
    (read_sign c.args.vertices.now c.args.a c.args.b c.args.c c.args.d _ _ _ _ Neg c.index-vertices-a.is c.index-vertices-b.is
    c.index-vertices-c.is c.index-vertices-d.is (omega arith) (omega arith) (omega arith) (omega arith) c.in-Neg.ensures.value))
    c.is_clear-in-Neg.ensures
