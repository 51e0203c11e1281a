use Rattle.std.proofs.Common.{◌<◌, ◌+◌, ◌^◌, ℕ, sym, subst, arith, slice_index}
use Rattle.solution.proofs.tally.count_next.Goals as goal

pub overflow_add-crossed : goal.overflow_add-crossed
overflow_add-crossed c =
    let a = c.args in let w = c.go_on.new.self in let taken = c.go_on.ensures.on c.if-go_on.true in
    let r = c.requires.room (record { at = w.at; side = w.entered }) w.to_come taken.side_in taken.first in
    let here : slice_index a.crossed.now c.counter_of.result + a.added < 2 ^ 32 =
    subst (λ (n : ℕ). slice_index a.crossed.now n + a.added < 2 ^ 32) (sym c.counter_of.ensures) r in
    omega (arith, here)
