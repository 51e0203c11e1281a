-- The cell that is taken and the others are those that were there (left_by, total_left, work_left).
use Rattle.std.proofs.Common.{◌∙◌, arith}
use Rattle.beam.specs.Beams.{AreWaiting, still_added}
use Rattle.beam.proofs.Queues.{left_by, total_left, work_left}
use Rattle.beam.proofs.beam.follow.Goals as goal

pub leave-requires-clause-waiting : goal.leave-requires-clause-waiting
leave-requires-clause-waiting c =
    (left_by (AreWaiting c.args.view.now.t.now c.args.view.now.s) c.loop-from.queue.cells.items c.take.new.queue.cells.items c.in-Some.from
    c.in-Some.ensures.some c.loop-from.invariant.waiting).1

pub leave-requires-clause-from : goal.leave-requires-clause-from
leave-requires-clause-from c =
    (left_by (AreWaiting c.args.view.now.t.now c.args.view.now.s) c.loop-from.queue.cells.items c.take.new.queue.cells.items c.in-Some.from
    c.in-Some.ensures.some c.loop-from.invariant.waiting).0

pub leave-requires-clause-room : goal.leave-requires-clause-room
leave-requires-clause-room c =
    λ id k m b.
    (let s = c.args.view.now.t.now in let o = c.args.view.now.s in
    let a =
    total_left (still_added s o id k) c.loop-from.queue.cells.items c.take.new.queue.cells.items c.in-Some.from
    c.in-Some.ensures.some in
    let sums = c.loop-from.invariant.sums id k m b in
    let room = c.requires.room id k m b in
    omega (arith, a, sums, room))

pub loop-from-preserved : goal.loop-from-preserved
loop-from-preserved c =
    record {
      count = c.in_ok-leave.ensures.count ∙ c.loop-from.invariant.count;
      waiting = c.in_ok-leave.ensures.waiting;
      sums = λ id k m b.
          (let s = c.args.view.now.t.now in let o = c.args.view.now.s in
          let a =
          total_left (still_added s o id k) c.loop-from.queue.cells.items c.take.new.queue.cells.items c.in-Some.from
          c.in-Some.ensures.some in
          let sums = c.loop-from.invariant.sums id k m b in
          let here = c.in_ok-leave.ensures.sums id k m b in
          omega (arith, a, sums, here));
    }

pub loop-from-smaller : goal.loop-from-smaller
loop-from-smaller c =
    let a =
    work_left c.args.view.now.t.now c.args.view.now.s c.loop-from.queue.cells.items c.take.new.queue.cells.items c.in-Some.from c.in-Some.ensures.some in
    let here = c.in_ok-leave.ensures.work in
    omega (arith, a, here)
