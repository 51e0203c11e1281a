use Rattle.std.proofs.Common.{◌<◌, ◌≡◌, ◌∙◌, arith, sym, ap, subst, List, ◌∷◌, length}
use Rattle.std.specs.List.{swap_remove}
use Rattle.std.specs.List.Sorted.{IsPermutation}
use Rattle.std.proofs.lemmas.List.Sorted.{IsPermutation-swap_remove}
use Rattle.beam.specs.declared.waiting.Waiting.{Waiting}
use Rattle.beam.proofs.waiting.take.Goals as goal

pub returns-in-Some-clause-some : goal.returns-in-Some-clause-some
returns-in-Some-clause-some c =
    let ys = c.pick.new.queue.cells.items in let w : Waiting = c.swap_remove-waiting.result in let i = c.in-Some.place in
    let same : ys ≡ c.args.queue.now.cells.items = c.pick.ensures.same in
    let e = ap length same in
    let l : i < length ys = omega (arith, e, c.in-Some.ensures.some) in
    subst (λ (zs : List Waiting). IsPermutation c.args.queue.now.cells.items (w ∷ zs))
    (sym (c.note_moved.ensures ∙ c.swap_remove-waiting.ensures.items))
    (subst (λ (zs : List Waiting). IsPermutation zs (w ∷ swap_remove ys i w)) same
    (IsPermutation-swap_remove ys i w l c.swap_remove-waiting.ensures.value))
