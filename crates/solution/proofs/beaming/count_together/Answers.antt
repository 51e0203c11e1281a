-- The counters are written through borrowed lists, so each goal first says that these are as long as before (same) and are read
-- as they were written (read).
use Rattle.std.proofs.Common.{ℕ, ◌≡◌, ◌++◌, ◌∙◌, sym, ap, subst, arith, List, length, take, drop}
use Rattle.std.proofs.lemmas.List.{take_at}
use Rattle.solution.specs.LongSights.{IsRoomFor, IsCellRoom, AreAdded, AreCellsAdded}
use Rattle.solution.proofs.beaming.count_together.Goals as goal

pub count_cells-requires-clause-fits : goal.count_cells-requires-clause-fits
count_cells-requires-clause-fits g c =
    let same = ap length c.deref_mut.ensures.value in let fits = c.requires.behind_fit in omega (arith, fits, same)

pub count_cells-requires-clause-room : goal.count_cells-requires-clause-room
count_cells-requires-clause-room g c =
    let w = c.args.located.now in
    subst (λ (xs : List ℕ). IsCellRoom w.t.now w.scanners.now c.args.sights.now xs) (sym c.deref_mut.ensures.value)
    c.requires.behind_room

pub count_all_facets-requires-clause-fits : goal.count_all_facets-requires-clause-fits
count_all_facets-requires-clause-fits g c =
    let same = ap length c.deref_mut-2.ensures.value in let fits = c.requires.crossed_fit in omega (arith, fits, same)

pub count_all_facets-requires-clause-room : goal.count_all_facets-requires-clause-room
count_all_facets-requires-clause-room g c =
    let w = c.args.located.now in
    subst (λ (xs : List ℕ). IsRoomFor w.t.now w.scanners.now c.args.sights.now xs) (sym c.deref_mut-2.ensures.value)
    c.requires.crossed_room
