use Rattle.std.proofs.Common.{ℕ, ◌≡◌, ◌<◌, ◌+◌, ◌*◌, length, slice_index}
use Rattle.tetra_store.specs.Links.{links_of, IsLive}
use Rattle.beam.specs.Beams.{AllWait, total, still_added, work}
use Rattle.beam.proofs.beam.follow.Given as goal

abbrev pub invariant-loop-from : goal.invariant-loop-from
invariant-loop-from l = record {
  count : length l.crossed ≡ length l.initial.crossed;
  waiting : AllWait l.view.t.now l.view.s l.queue.cells.items;
  sums :
      (id k : ℕ) → IsLive (links_of l.view.t.now.slots) id → k < 4
      → slice_index l.crossed (4 * id + k) + total (still_added l.view.t.now l.view.s id k) l.queue.cells.items
      ≡ slice_index l.initial.crossed (4 * id + k) + total (still_added l.view.t.now l.view.s id k) l.initial.queue.cells.items;
}

abbrev pub decreases-loop-from : goal.decreases-loop-from
decreases-loop-from l = work l.view.t.now l.view.s l.queue.cells.items
