-- The counters, after two sights at a time and perhaps one more.
--
-- The invariant is `IsTally`: they hold the sums over the first k sights. All sights together weigh less than 2^32, so the
-- next ones can be added without wrapping (facet_room, cell_room with line_weight). Two sights, or one, add to each facet
-- and cell what they cross and are behind of (two_more, one_more); where all are counted the tally is the answer
-- (all_counted). Counters are written through borrowed lists, so each goal first says that these are as long as before and
-- are read as they were written (same_crossed, read_crossed and the like).
use Rattle.std.proofs.Common.{ℕ, ◌≡◌, ◌<◌, ◌+◌, ◌*◌, ◌^◌, ◌++◌, ◌∙◌, sym, ap, subst, arith, List, length, take, drop}
use Rattle.std.proofs.Common.{slice_index}
use Rattle.std.proofs.lemmas.List.{take_at}
use Rattle.solution.specs.Counts.{AreCounted}
use Rattle.solution.specs.Lines.{added_on, added_behind}
use Rattle.solution.proofs.Tallies.{IsTally, sight_at, line_weight, facet_room, cell_room, one_more, two_more, all_counted}
use Rattle.solution.proofs.tally.count_sights.Goals as goal
use Rattle.solution.proofs.tally.count_sights.Goals.{then-k-sights, else-k-sights}

pub overflow_add-k : goal.overflow_add-k
overflow_add-k g c = let few = c.requires.few.few in let so_far = c.loop-k.invariant.so_far in omega (arith, few, so_far)

pub count_two-requires-clause-crossed_fit : goal.count_two-requires-clause-crossed_fit
count_two-requires-clause-crossed_fit g c =
    let fits = c.loop-k.invariant.crossed_fits in
    let same : length c.deref_mut.result.now ≡ length c.loop-k.crossed.items = ap length c.deref_mut.ensures.value in
    omega (arith, fits, same)

pub count_two-requires-clause-before_fit : goal.count_two-requires-clause-before_fit
count_two-requires-clause-before_fit g c =
    let fits = c.loop-k.invariant.behind_fits in
    let same : length c.deref_mut-in-loop-k.result.now ≡ length c.loop-k.behind.items =
    ap length c.deref_mut-in-loop-k.ensures.value in
    omega (arith, fits, same)

pub count_two-requires-clause-crossed_room : goal.count_two-requires-clause-crossed_room
count_two-requires-clause-crossed_room g c id k m =
    let a = c.args in let w = a.located.now in let l = c.loop-k in
    let one =
    line_weight w.scanners.now w.cells.now (sight_at a.sights.now l.k) c.line_of-one.result
    (c.requires.few.weighed l.k _ (omega (arith, c.loop-k-test.true))) c.line_of-one.ensures in
    let other =
    line_weight w.scanners.now w.cells.now (sight_at a.sights.now (l.k + 1)) c.line_of-other.result
    (c.requires.few.weighed (l.k + 1) _ (omega (arith, c.loop-k-test.true))) c.line_of-other.ensures in
    let n = c.line_of-one.result.added + c.line_of-other.result.added in
    subst (λ (xs : List ℕ). slice_index xs (4 * id + k) + n < 2 ^ 32) (sym c.deref_mut.ensures.value)
    (facet_room w.t.now w.scanners.now a.sights.now l.k l.crossed.items l.behind.items l.invariant c.requires.few n
    (omega (arith, one, other)) id k m)

pub count_two-requires-clause-before_room : goal.count_two-requires-clause-before_room
count_two-requires-clause-before_room g c id =
    let a = c.args in let w = a.located.now in let l = c.loop-k in
    let one =
    line_weight w.scanners.now w.cells.now (sight_at a.sights.now l.k) c.line_of-one.result
    (c.requires.few.weighed l.k _ (omega (arith, c.loop-k-test.true))) c.line_of-one.ensures in
    let other =
    line_weight w.scanners.now w.cells.now (sight_at a.sights.now (l.k + 1)) c.line_of-other.result
    (c.requires.few.weighed (l.k + 1) _ (omega (arith, c.loop-k-test.true))) c.line_of-other.ensures in
    let n = c.line_of-one.result.added + c.line_of-other.result.added in
    subst (λ (xs : List ℕ). slice_index xs id + n < 2 ^ 32) (sym c.deref_mut-in-loop-k.ensures.value)
    (cell_room w.t.now w.scanners.now a.sights.now l.k l.crossed.items l.behind.items l.invariant c.requires.few n
    (omega (arith, one, other)) id)

pub loop-k-preserved : goal.loop-k-preserved
loop-k-preserved g c =
    let a = c.args in let w = a.located.now in let l = c.loop-k in let x = c.line_of-one.result in let y = c.line_of-other.result in
    let crossed = c.count_two.new.crossed in let behind = c.count_two.new.before in
    let same_crossed : length crossed ≡ length l.crossed.items =
    c.count_two.ensures.crossed_count ∙ ap length c.deref_mut.ensures.value in
    let same_behind : length behind ≡ length l.behind.items =
    c.count_two.ensures.before_count ∙ ap length c.deref_mut-in-loop-k.ensures.value in
    let on_facets : (id k : ℕ) → k < 4
    → slice_index crossed (4 * id + k)
    ≡ slice_index l.crossed.items (4 * id + k) + (added_on w.t.now x id k + added_on w.t.now y id k) =
    subst (λ (xs : List ℕ). (id k : ℕ) → k < 4
    → slice_index crossed (4 * id + k) ≡ slice_index xs (4 * id + k) + (added_on w.t.now x id k + added_on w.t.now y id k))
    c.deref_mut.ensures.value c.count_two.ensures.facets in
    let on_cells : (id : ℕ)
    → slice_index behind id ≡ slice_index l.behind.items id + (added_behind w.t.now x id + added_behind w.t.now y id) =
    subst (λ (xs : List ℕ). (id : ℕ)
    → slice_index behind id ≡ slice_index xs id + (added_behind w.t.now x id + added_behind w.t.now y id))
    c.deref_mut-in-loop-k.ensures.value c.count_two.ensures.cells in
    let tally : IsTally w.t.now w.scanners.now a.sights.now (l.k + 2) crossed behind =
    two_more w.t.now w.scanners.now w.cells.now a.sights.now l.k x y l.crossed.items l.behind.items crossed behind l.invariant
    (omega (arith, c.loop-k-test.true)) c.line_of-one.ensures c.line_of-other.ensures
    same_crossed same_behind on_facets on_cells in
    let read_crossed : take l.crossed.len (crossed ++ drop (length crossed) l.crossed.items) ≡ crossed =
    take_at crossed (drop (length crossed) l.crossed.items) l.crossed.len
    (let m = l.crossed.ok.0 in omega (arith, m, same_crossed)) in
    let read_behind : take l.behind.len (behind ++ drop (length behind) l.behind.items) ≡ behind =
    take_at behind (drop (length behind) l.behind.items) l.behind.len
    (let m = l.behind.ok.0 in omega (arith, m, same_behind)) in
    subst (λ (xs : List ℕ).
    IsTally w.t.now w.scanners.now a.sights.now (l.k + 2) xs
    (take l.behind.len (behind ++ drop (length behind) l.behind.items))) (sym read_crossed)
    (subst (λ (ys : List ℕ). IsTally w.t.now w.scanners.now a.sights.now (l.k + 2) crossed ys) (sym read_behind) tally)

pub count_crossed-requires-clause-fits : goal.count_crossed-requires-clause-fits
count_crossed-requires-clause-fits g c =
    let fits = c.loop-k.invariant.crossed_fits in
    let same : length c.deref_mut-then-k-sights.result.now ≡ length c.loop-k.crossed.items =
    ap length c.deref_mut-then-k-sights.ensures.value in
    omega (arith, fits, same)

pub count_crossed-requires-clause-room : goal.count_crossed-requires-clause-room
count_crossed-requires-clause-room g c id k m =
    let a = c.args in let w = a.located.now in let l = c.loop-k in
    let last =
    line_weight w.scanners.now w.cells.now (sight_at a.sights.now l.k) c.line_of-last.result
    (c.requires.few.weighed l.k _ (omega (arith, c.if-k-sights.true))) c.line_of-last.ensures in
    subst (λ (xs : List ℕ). slice_index xs (4 * id + k) + c.line_of-last.result.added < 2 ^ 32)
    (sym c.deref_mut-then-k-sights.ensures.value)
    (facet_room w.t.now w.scanners.now a.sights.now l.k l.crossed.items l.behind.items l.invariant c.requires.few
    c.line_of-last.result.added (omega (arith, last)) id k m)

pub count_behind-requires-clause-fits : goal.count_behind-requires-clause-fits
count_behind-requires-clause-fits g c =
    let fits = c.loop-k.invariant.behind_fits in
    let same : length c.deref_mut-then-k-sights-2.result.now ≡ length c.loop-k.behind.items =
    ap length c.deref_mut-then-k-sights-2.ensures.value in
    omega (arith, fits, same)

pub count_behind-requires-clause-room : goal.count_behind-requires-clause-room
count_behind-requires-clause-room g c id live at =
    let a = c.args in let w = a.located.now in let l = c.loop-k in
    let last =
    line_weight w.scanners.now w.cells.now (sight_at a.sights.now l.k) c.line_of-last.result
    (c.requires.few.weighed l.k _ (omega (arith, c.if-k-sights.true))) c.line_of-last.ensures in
    subst (λ (xs : List ℕ). slice_index xs id + c.line_of-last.result.added < 2 ^ 32)
    (sym c.deref_mut-then-k-sights-2.ensures.value)
    (cell_room w.t.now w.scanners.now a.sights.now l.k l.crossed.items l.behind.items l.invariant c.requires.few
    c.line_of-last.result.added (omega (arith, last)) id)

pub returns : goal.returns
returns g c =
    let a = c.args in let q = a.located.now in let l = c.loop-k in
    elim c.if-k-sights.branch [
      | then-k-sights w ↦
          let x = w.line_of-last.result in
          let crossed = w.count_crossed.new.crossed in
          let behind = w.count_behind.new.before in
          let same_crossed : length crossed ≡ length l.crossed.items =
          w.count_crossed.ensures.count ∙ ap length w.deref_mut-then-k-sights.ensures.value in
          let same_behind : length behind ≡ length l.behind.items =
          w.count_behind.ensures.count ∙ ap length w.deref_mut-then-k-sights-2.ensures.value in
          let on_facets : (id k : ℕ) → k < 4
          → slice_index crossed (4 * id + k) ≡ slice_index l.crossed.items (4 * id + k) + added_on q.t.now x id k =
          subst (λ (xs : List ℕ). (id k : ℕ) → k < 4
          → slice_index crossed (4 * id + k) ≡ slice_index xs (4 * id + k) + added_on q.t.now x id k)
          w.deref_mut-then-k-sights.ensures.value w.count_crossed.ensures.added in
          let on_cells : (id : ℕ) → slice_index behind id ≡ slice_index l.behind.items id + added_behind q.t.now x id =
          subst (λ (xs : List ℕ). (id : ℕ) → slice_index behind id ≡ slice_index xs id + added_behind q.t.now x id)
          w.deref_mut-then-k-sights-2.ensures.value w.count_behind.ensures.added in
          let tally : IsTally q.t.now q.scanners.now a.sights.now (l.k + 1) crossed behind =
          one_more q.t.now q.scanners.now q.cells.now a.sights.now l.k x l.crossed.items l.behind.items crossed behind
          l.invariant (omega (arith, w.if-k-sights.true)) w.line_of-last.ensures
          same_crossed same_behind on_facets on_cells in
          let whole : l.k + 1 ≡ length a.sights.now = omega (arith, w.if-k-sights.true, c.loop-k-test.false) in
          let read_crossed : c.if-k-sights.crossed.items ≡ crossed =
          ap (λ v. v.items) w.crossed-is
          ∙ take_at crossed (drop (length crossed) l.crossed.items) l.crossed.len
          (let m = l.crossed.ok.0 in omega (arith, m, same_crossed)) in
          let read_behind : c.if-k-sights.behind.items ≡ behind =
          ap (λ v. v.items) w.behind-is
          ∙ take_at behind (drop (length behind) l.behind.items) l.behind.len
          (let m = l.behind.ok.0 in omega (arith, m, same_behind)) in
          subst (λ (xs : List ℕ). AreCounted q.t.now q.scanners.now a.sights.now xs c.if-k-sights.behind.items)
          (sym read_crossed)
          (subst (λ (ys : List ℕ). AreCounted q.t.now q.scanners.now a.sights.now crossed ys) (sym read_behind)
          (all_counted q.t.now q.scanners.now a.sights.now (l.k + 1) crossed behind whole tally))
      | else-k-sights w ↦
          let whole : l.k ≡ length a.sights.now =
          (let so_far = l.invariant.so_far in omega (arith, w.if-k-sights.false, so_far)) in
          subst (λ v. AreCounted q.t.now q.scanners.now a.sights.now v.items c.if-k-sights.behind.items) (sym w.crossed-is)
          (subst (λ v. AreCounted q.t.now q.scanners.now a.sights.now l.crossed.items v.items) (sym w.behind-is)
          (all_counted q.t.now q.scanners.now a.sights.now l.k l.crossed.items l.behind.items whole l.invariant))
    ]
