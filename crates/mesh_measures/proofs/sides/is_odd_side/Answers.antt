use Rattle.std.proofs.Common.{arith}
use Rattle.std.proofs.lemmas.Bool.{OnFalse_at, OnFalse_from, OnTrue_at, OnTrue_from}
use Rattle.mesh_measures.specs.Sides.{IsOddSide}
use Rattle.mesh_measures.proofs.Runs.{more_times, once, twice}
use Rattle.mesh_measures.proofs.sides.is_odd_side.Goals as goal

pub returns-then-not-has_edge_of-clause-yes : goal.returns-then-not-has_edge_of-clause-yes
returns-then-not-has_edge_of-clause-yes c =
    let first = c.if-not-is_first_of_edge.ensures.yes in
    record {
      first = first;
      odd = λ e.
          omega (arith, once c.args.sides.now c.requires.sorted c.args.i c.requires.within first c.if-not-has_edge_of.ensures.no, e);
    }

pub returns-clause-yes : goal.returns-clause-yes
returns-clause-yes c =
    let first = c.if-not-is_first_of_edge.ensures.yes in
    let next = c.if-not-has_edge_of.ensures.yes in
    OnTrue_from c.has_edge_of-2.result (IsOddSide c.args.sides.now c.args.i)
    (λ yes.
    let last = OnTrue_at yes c.has_edge_of-2.ensures.yes in
    record {
      first = first;
      odd = λ e.
          omega (
            arith,
            more_times c.args.sides.now c.requires.sorted c.args.i c.requires.within first next.0 next.1 last.0 last.1,
            e,
          );
    })

pub returns-clause-no : goal.returns-clause-no
returns-clause-no c =
    let first = c.if-not-is_first_of_edge.ensures.yes in
    let next = c.if-not-has_edge_of.ensures.yes in
    OnFalse_from c.has_edge_of-2.result (IsOddSide c.args.sides.now c.args.i → ⊥)
    (λ no odd.
    odd.odd
    (twice c.args.sides.now c.requires.sorted c.args.i c.requires.within first next.0 next.1
    (OnFalse_at no c.has_edge_of-2.ensures.no)))
