-- The keys are sorted through a borrowed slice and read through another, so `moved` and `read` first say that these are the keys.
use Rattle.std.proofs.Common.{ℕ, ◌≡◌, ◌≤◌, List, length, drop, subst, arith, ◌∙◌}
use Rattle.std.specs.List.Sorted.{IsPermutation}
use Rattle.std.proofs.lemmas.Bool.{OnTrue_from, OnTrue_at}
use Rattle.std.proofs.lemmas.List.{take_at}
use Rattle.std.proofs.lemmas.List.Sorted.{length_permutation}
use Rattle.mesh_pieces.specs.Splits.{AreSingle}
use Rattle.mesh_simplify.proofs.EdgeKeys.{times, single_by_keys}
use Rattle.mesh_simplify.proofs.single.are_edges_single.Goals as goal

moved : (c : goal.After-drop-keys) → IsPermutation c.in_ok-keys.keys.items c.sort.new.keys
moved c = subst (λ (z : List ℕ). IsPermutation z c.sort.new.keys) c.deref_mut.ensures.value c.sort.ensures.moved

read : (c : goal.After-drop-keys) → c.deref.result.now ≡ c.sort.new.keys
read c =
    c.deref.ensures.value
    ∙ take_at c.sort.new.keys (drop (length c.sort.new.keys) c.in_ok-keys.keys.items) c.in_ok-keys.keys.len
    (let n = length_permutation c.in_ok-keys.keys.items c.sort.new.keys (moved c) in
    let m = c.in_ok-keys.keys.ok.0 in
    omega arith)

pub returns : goal.returns
returns c =
    OnTrue_from c.are_single.result (AreSingle c.args.faces.now)
    (λ yes.
    single_by_keys c.args.faces.now c.in_ok-keys.keys.items c.sort.new.keys c.requires c.in_ok-keys.ensures (moved c)
    (subst (λ (keys : List ℕ). (k : ℕ) → times k keys ≤ 1) (read c) (OnTrue_at yes c.are_single.ensures)))
