-- What the first sights add and what the others add make what all add, which is below 2 ^ 32 (room_for_rest, cell_room_for_rest,
-- all_added).
use Rattle.std.proofs.Common.{◌≡◌, sym, subst, arith, List, length, drop}
use Rattle.std.specs.List.{between}
use Rattle.std.proofs.lemmas.Slice.{between_to_end}
use Rattle.flow_net.specs.declared.votes.Sight.{Sight}
use Rattle.solution.specs.LongSights.{IsRoomFor, IsCellRoom, AreAdded, AreCellsAdded}
use Rattle.solution.proofs.LongSights.{room_for_rest, cell_room_for_rest, all_added}
use Rattle.solution.proofs.counting.count_in_order.Goals as goal

pub count_together-requires-clause-crossed_room : goal.count_together-requires-clause-crossed_room
count_together-requires-clause-crossed_room g c =
    let a = c.args in let w = a.located.now in let xs = a.sights.now in let counts = c.in_ok-counts.counts in
    let rest : between a.place (length xs) xs ≡ drop a.place xs = between_to_end xs a.place (length xs) (omega arith) in
    subst (λ (zs : List Sight). IsRoomFor w.t.now w.scanners.now zs counts.crossed.items) (sym rest)
    (room_for_rest w.t.now w.scanners.now xs a.place counts.crossed.items counts.behind.items c.requires.few c.in_ok-counts.ensures)

pub count_together-requires-clause-behind_room : goal.count_together-requires-clause-behind_room
count_together-requires-clause-behind_room g c =
    let a = c.args in let w = a.located.now in let xs = a.sights.now in let counts = c.in_ok-counts.counts in
    let rest : between a.place (length xs) xs ≡ drop a.place xs = between_to_end xs a.place (length xs) (omega arith) in
    subst (λ (zs : List Sight). IsCellRoom w.t.now w.scanners.now zs counts.behind.items) (sym rest)
    (cell_room_for_rest w.t.now w.scanners.now xs a.place counts.crossed.items counts.behind.items c.requires.few
    c.in_ok-counts.ensures)

pub returns : goal.returns
returns g c =
    let a = c.args in let s = a.located.now.t.now in let q = a.located.now.scanners.now in let xs = a.sights.now in
    let old = c.in_ok-counts.counts in let new = c.count_together.new.counts in let added = c.in_ok-count_together.ensures in
    let rest : between a.place (length xs) xs ≡ drop a.place xs = between_to_end xs a.place (length xs) (omega arith) in
    let facets : AreAdded s q (drop a.place xs) old.crossed.items new.crossed.items =
    subst (λ (zs : List Sight). AreAdded s q zs old.crossed.items new.crossed.items) rest added.facets in
    let cells : AreCellsAdded s q (drop a.place xs) old.behind.items new.behind.items =
    subst (λ (zs : List Sight). AreCellsAdded s q zs old.behind.items new.behind.items) rest added.cells in
    all_added s q xs a.place old.crossed.items old.behind.items new.crossed.items new.behind.items c.in_ok-counts.ensures
    c.count_together.ensures.crossed_count c.count_together.ensures.behind_count facets cells
