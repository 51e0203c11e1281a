-- The counters hold what the first k sights add (cell_more). Those and the next one together add no more than all do, for which
-- there is room (cell_room_for).
use Rattle.std.proofs.Common.{◌≡◌, ◌∙◌, refl, ap, arith, take, List}
use Rattle.std.proofs.lemmas.List.{take_all}
use Rattle.flow_net.specs.declared.votes.Sight.{Sight}
use Rattle.solution.specs.LongSights.{behind_weight}
use Rattle.solution.proofs.LongSights.{cell_more, cell_room_for}
use Rattle.solution.proofs.beaming.count_cells.Goals as goal

pub loop-k-init : goal.loop-k-init
loop-k-init c = record { so_far = omega arith; count = refl; added = λ id m. omega arith }

pub count_behind-requires-clause-fits : goal.count_behind-requires-clause-fits
count_behind-requires-clause-fits c = let same = c.loop-k.invariant.count in omega (arith, same, c.requires.fits)

pub count_behind-requires-clause-room : goal.count_behind-requires-clause-room
count_behind-requires-clause-room c id live at =
    let a = c.args in let w = a.located.now in let l = c.loop-k in
    let room = c.requires.room id live in
    let added = l.invariant.added id live in
    let most =
    cell_room_for w.t.now w.scanners.now w.cells.now a.sights.now l.k c.line_of-line.result (omega (arith, c.loop-k-test.true))
    c.line_of-line.ensures id live at in
    omega (arith, room, added, most)

pub loop-k-preserved : goal.loop-k-preserved
loop-k-preserved c =
    let a = c.args in let w = a.located.now in let l = c.loop-k in
    record {
      so_far = omega (arith, c.loop-k-test.true);
      count = c.count_behind.ensures.count ∙ l.invariant.count;
      added = λ id live.
          (let one = c.count_behind.ensures.added id in
          let added = l.invariant.added id live in
          let more =
          cell_more w.t.now w.scanners.now w.cells.now a.sights.now l.k c.line_of-line.result
          (omega (arith, c.loop-k-test.true)) c.line_of-line.ensures id live in
          omega (arith, one, added, more));
    }

pub returns-clause-added : goal.returns-clause-added
returns-clause-added c id live =
    let a = c.args in let w = a.located.now in let l = c.loop-k in
    let whole : take l.k a.sights.now ≡ a.sights.now =
    take_all l.k a.sights.now (omega (arith, c.loop-k-test.false)) in
    let e = ap (λ (xs : List Sight). behind_weight w.t.now w.scanners.now id xs) whole in
    let added = l.invariant.added id live in
    omega (arith, added, e)
