use Rattle.std.proofs.Common.{ℕ, ◌≡◌, ◌<◌, ◌≤◌, ◌+◌, ◌*◌, length, drop, slice_index}
use Rattle.std.specs.List.{sum_by}
use Rattle.tetra_store.specs.Links.{links_of, IsLive}
use Rattle.beam.specs.Beams.{AllWait, total, still_added, steps_left, work}
use Rattle.beam.proofs.beam.leave.Given as goal

abbrev pub invariant-loop-ray : goal.invariant-loop-ray
invariant-loop-ray l = record {
  count : length l.crossed ≡ length l.initial.crossed;
  waiting : AllWait l.view.t.now l.view.s l.queue.cells.items;
  sums :
      (id k : ℕ) → IsLive (links_of l.view.t.now.slots) id → k < 4
      → slice_index l.crossed (4 * id + k) + total (still_added l.view.t.now l.view.s id k) l.queue.cells.items
      + sum_by (still_added l.view.t.now l.view.s id k l.from.cell) (drop l.ray-index l.from.rays.items)
      ≡ slice_index l.initial.crossed (4 * id + k) + total (still_added l.view.t.now l.view.s id k) l.initial.queue.cells.items
      + sum_by (still_added l.view.t.now l.view.s id k l.from.cell) l.from.rays.items;
  less :
      work l.view.t.now l.view.s l.queue.cells.items + 2 * sum_by (steps_left l.view.t.now l.view.s l.from.cell) (drop l.ray-index l.from.rays.items)
      ≤ work l.view.t.now l.view.s l.initial.queue.cells.items + 2 * sum_by (steps_left l.view.t.now l.view.s l.from.cell) l.from.rays.items;
}
