-- The facet is crossed, so there is a cell across (not_none), and the line of sight passes it (waits): that is all that
-- unreachable!() and put ask. What the counter gains is what the line of sight is yet to add less there (raised, still), and the
-- others that wait are the same (put's sums). It has one step less (shorter), and the list at most one cell more.
use Rattle.std.proofs.Common.{ℕ, ◌+◌, ◌*◌, ◌∙◌, arith, sym, ap, length, set, get_or}
use Rattle.beam.specs.Beams.{still_added, steps_left}
use Rattle.beam.proofs.Steps.{IsScene, went, not_none, to_next, waits, raised, still, shorter, below}
use Rattle.beam.proofs.beam.cross.Goals as goal

pub unreachable-requires : goal.unreachable-requires
unreachable-requires c =
    let s = c.args.view.now.t.now in let o = c.args.view.now.s in let r = c.args.exit.ray in let h = c.requires in
    let scene : IsScene s o = record { store = c.facts.ensures; delaunay = h.delaunay; data_point = h.data_point } in
    not_none s o r c.args.exit.cell c.args.exit.side (went s o r c.args.exit.cell c.args.exit.side scene h.ray h.side h.through)
    (sym c.across.ensures.value ∙ c.in-None.is)

pub put-requires-clause-ray : goal.put-requires-clause-ray
put-requires-clause-ray c =
    let s = c.args.view.now.t.now in let o = c.args.view.now.s in let r = c.args.exit.ray in let h = c.requires in
    let scene : IsScene s o = record { store = c.facts.ensures; delaunay = h.delaunay; data_point = h.data_point } in
    waits s o r c.args.exit.cell c.args.exit.side c.in-Some.next h.ray.ray
    (to_next s o r c.args.exit.cell c.args.exit.side c.in-Some.next
    (went s o r c.args.exit.cell c.args.exit.side scene h.ray h.side h.through) (sym c.across.ensures.value ∙ c.in-Some.is))

pub returns-clause-sums : goal.returns-clause-sums
returns-clause-sums c =
    λ id k m b.
    (let s = c.args.view.now.t.now in let o = c.args.view.now.s in let r = c.args.exit.ray in let h = c.requires in let y = c.args.exit.cell in
    let j = c.args.exit.side in let z = c.in-Some.next in
    let scene : IsScene s o = record { store = c.facts.ensures; delaunay = h.delaunay; data_point = h.data_point } in
    let w = to_next s o r y j z (went s o r y j scene h.ray h.side h.through) (sym c.across.ensures.value ∙ c.in-Some.is) in
    let e = raised c.args.crossed.now y j id k r.added h.side b (below s y j (length c.args.crossed.now) h.ray.live h.side h.fits) in
    let f = still s o r y j z w id k m b in
    let g = c.in_ok-put-in-Some.ensures.sums (still_added s o id k) in
    let xs = c.args.crossed.now in
    let at = ap (λ (n : ℕ). get_or (set xs (4 * n + j) (get_or xs (4 * n + j) 0 + r.added)) (4 * id + k) 0) c.number.ensures in
    omega (arith, at, e, f, g))

pub returns-clause-work : goal.returns-clause-work
returns-clause-work c =
    let s = c.args.view.now.t.now in let o = c.args.view.now.s in let r = c.args.exit.ray in let h = c.requires in let y = c.args.exit.cell in
    let j = c.args.exit.side in let z = c.in-Some.next in
    let scene : IsScene s o = record { store = c.facts.ensures; delaunay = h.delaunay; data_point = h.data_point } in
    let w = to_next s o r y j z (went s o r y j scene h.ray h.side h.through) (sym c.across.ensures.value ∙ c.in-Some.is) in
    let f = shorter s o r y j z w in
    let g = c.in_ok-put-in-Some.ensures.sums (steps_left s o) in
    let i = c.in_ok-put-in-Some.ensures.few in
    omega (arith, f, g, i)
