-- The list is sorted through a borrowed slice and read through another, so `moved` and `read` first say that these are the list.
use Rattle.std.proofs.Common.{◌≡◌, List, length, drop, map, sym, ap, ◌∙◌, subst, arith}
use Rattle.std.specs.List.Sorted.{IsPermutation}
use Rattle.std.proofs.lemmas.List.{take_at}
use Rattle.std.proofs.lemmas.List.Sorted.{length_permutation}
use Rattle.std.proofs.lemmas.Result.{IfOk-weaker}
use Rattle.mesh_flips.specs.Orders.{Covers, face_number}
use Rattle.mesh_flips.specs.declared.order.Ranked.{Ranked}
use Rattle.mesh_flips.proofs.Ordered.{covered}
use Rattle.mesh_flips.proofs.order.in_order.Goals as goal

moved : (c : goal.After-drop-list) → IsPermutation c.in_ok-list.list.items c.sort.new.list
moved c = subst (λ (z : List Ranked). IsPermutation z c.sort.new.list) c.deref_mut.ensures.value c.sort.ensures

read : (c : goal.After-drop-list) → c.deref.result.now ≡ c.sort.new.list
read c =
    c.deref.ensures.value
    ∙ take_at c.sort.new.list (drop (length c.sort.new.list) c.in_ok-list.list.items) c.in_ok-list.list.len
    (let n = length_permutation c.in_ok-list.list.items c.sort.new.list (moved c) in
    let m = c.in_ok-list.list.ok.0 in
    omega arith)

pub returns : goal.returns
returns c =
    IfOk-weaker c.numbers_of.result (λ numbers. numbers.items ≡ map face_number c.deref.result.now)
    (λ numbers. Covers (length c.args.faces.now) numbers.items)
    (λ numbers e.
    subst (Covers (length c.args.faces.now)) (sym (e ∙ ap (map face_number) (read c)))
    (covered (length c.args.faces.now) c.in_ok-list.list.items c.sort.new.list c.in_ok-list.ensures (moved c)))
    c.numbers_of.ensures
