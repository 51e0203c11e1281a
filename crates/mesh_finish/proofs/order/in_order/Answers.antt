-- The list is sorted through a borrowed slice and read through another, so `moved` and `read` first say that these are the list.
use Rattle.std.proofs.Common.{ℕ, ◌≡◌, List, length, drop, map, sym, ap, ◌∙◌, subst, arith}
use Rattle.std.specs.List.Sorted.{IsPermutation}
use Rattle.std.proofs.lemmas.List.{take_at}
use Rattle.std.proofs.lemmas.List.Sorted.{length_permutation, IsPermutation-map}
use Rattle.std.proofs.lemmas.Result.{IfOk-weaker}
use Rattle.mesh_finish.specs.Order.{unkeyed}
use Rattle.mesh_finish.specs.declared.order.Keyed.{Keyed}
use Rattle.mesh_finish.proofs.order.in_order.Goals as goal

moved : (c : goal.After-drop-list) → IsPermutation c.in_ok-list.list.items c.sort.new.list
moved c = subst (λ (z : List Keyed). IsPermutation z c.sort.new.list) c.deref_mut.ensures.value c.sort.ensures

read : (c : goal.After-drop-list) → c.deref.result.now ≡ c.sort.new.list
read c =
    c.deref.ensures.value
    ∙ take_at c.sort.new.list (drop (length c.sort.new.list) c.in_ok-list.list.items) c.in_ok-list.list.len
    (let n = length_permutation c.in_ok-list.list.items c.sort.new.list (moved c) in
    let m = c.in_ok-list.list.ok.0 in
    omega arith)

pub returns : goal.returns
returns c =
    IfOk-weaker c.faces_of.result (λ faces. faces.items ≡ map unkeyed c.deref.result.now)
    (λ sorted. IsPermutation {X = List ℕ} c.args.faces.now sorted.items)
    (λ faces e.
    subst (λ (z : List (List ℕ)). IsPermutation c.args.faces.now z) (sym (e ∙ ap (map unkeyed) (read c)))
    (subst (λ (z : List (List ℕ)). IsPermutation z (map unkeyed c.sort.new.list)) c.in_ok-list.ensures
    (IsPermutation-map unkeyed c.in_ok-list.list.items c.sort.new.list (moved c))))
    c.faces_of.ensures
