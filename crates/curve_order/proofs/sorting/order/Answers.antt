-- The numbers of a sorted list of ranks.
--
-- The list that was sorted has each number once with its key (order_of asks for a permutation of what was made), and it
-- rises by key and then number (by_key). It is sorted through a borrowed slice and read through another, so `moved` and
-- `read` first say that these are the list.
use Rattle.std.proofs.Common.{ℕ, ◌≡◌, List, length, drop, map, sym, ap, ◌∙◌, subst, arith}
use Rattle.std.specs.List.Sorted.{IsPermutation}
use Rattle.std.proofs.lemmas.List.{take_at}
use Rattle.std.proofs.lemmas.List.Sorted.{length_permutation}
use Rattle.std.proofs.lemmas.Result.{IfOk-weaker}
use Rattle.curve_order.specs.declared.sorting.Ranked.{Ranked}
use Rattle.curve_order.specs.Order.{IsOrder, IsByKey}
use Rattle.curve_order.specs.Curve.{key_in}
use Rattle.curve_order.specs.Ranks.{the_number}
use Rattle.curve_order.proofs.Orders.{order_of, by_key}
use Rattle.curve_order.proofs.sorting.order.Goals as goal

-- the list that was sorted, and as it is read
moved : (c : goal.After-drop-list) → IsPermutation c.in_ok-list.list.items c.sort.new.list
moved c = subst (λ (z : List Ranked). IsPermutation z c.sort.new.list) c.deref_mut.ensures.value c.sort.ensures.moved

read : (c : goal.After-drop-list) → c.deref.result.now ≡ c.sort.new.list
read c =
    c.deref.ensures.value
    ∙ take_at c.sort.new.list (drop (length c.sort.new.list) c.in_ok-list.list.items) c.in_ok-list.list.len
    (let n = length_permutation c.in_ok-list.list.items c.sort.new.list (moved c) in
    let m = c.in_ok-list.list.ok.0 in
    omega arith)

pub returns-clause-order : goal.returns-clause-order
returns-clause-order c =
    IfOk-weaker c.numbers.result (λ order. order.items ≡ map the_number c.deref.result.now)
    (λ order. IsOrder (length c.args.points.now) order.items)
    (λ order e. subst (λ (z : List ℕ). IsOrder (length c.args.points.now) z) (sym (e ∙ ap (map the_number) (read c)))
    (order_of c.args.points.now c.in_ok-list.list.items c.sort.new.list (length c.args.points.now) c.in_ok-list.ensures
    (moved c))) c.numbers.ensures

pub returns-clause-by_key : goal.returns-clause-by_key
returns-clause-by_key c =
    let n = length c.args.points.now in
    let count : length c.sort.new.list ≡ n =
    length_permutation c.in_ok-list.list.items c.sort.new.list (moved c) ∙ c.in_ok-list.ensures.count in
    IfOk-weaker c.numbers.result (λ order. order.items ≡ map the_number c.deref.result.now)
    (λ order. IsByKey (key_in c.args.points.now) n order.items)
    (λ order e. subst (λ (z : List ℕ). IsByKey (key_in c.args.points.now) n z) (sym (e ∙ ap (map the_number) (read c)))
    (by_key c.args.points.now c.in_ok-list.list.items c.sort.new.list n c.requires.few c.in_ok-list.ensures (moved c)
    c.sort.ensures.sorted count)) c.numbers.ensures
