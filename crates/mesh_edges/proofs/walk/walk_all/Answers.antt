use Rattle.std.proofs.Common.{ℕ, ◌≡◌, ◌≤◌, ◌∙◌, below_more, length, get_or, arith}
use Rattle.mesh_edges.proofs.Trails.{stay_any}
use Rattle.mesh_edges.proofs.walk.walk_all.Goals as goal

pub loop-h-preserved : goal.loop-h-preserved
loop-h-preserved c =
    let was = c.loop-h.invariant in
    let done = c.in_ok-walk_from.ensures in
    let mid = c.loop-h.walk.labels.items in
    let new = c.walk_from.new.walk.labels.items in
    let count : length new ≡ length mid =
    omega (arith, done.walk.labelled.count, was.walk.labelled.count, done.count) in
    record {
      walk = done.walk;
      count = done.count ∙ was.count;
      empty = done.empty;
      settled =
          below_more (λ g. length new ≤ get_or new g 0) c.loop-h.h
          (λ g l. stay_any mid new count done.stay g (was.settled g l)) done.settled;
    }
