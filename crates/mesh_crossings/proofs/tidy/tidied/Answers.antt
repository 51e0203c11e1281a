-- The pairs are sorted through a borrowed slice and read through another, so `moved` and `read` first say that these are the pairs.
use Rattle.std.proofs.Common.{◌≡◌, List, length, drop, ◌∙◌, subst, arith}
use Rattle.std.specs.List.Sorted.{IsPermutation}
use Rattle.std.proofs.lemmas.List.{take_at}
use Rattle.std.proofs.lemmas.List.Sorted.{length_permutation}
use Rattle.mesh_edges.specs.declared.pairs.Pair.{Pair}
use Rattle.mesh_crossings.specs.Tested.{AreSamePairs}
use Rattle.mesh_crossings.proofs.Tidied.{moved_pairs}
use Rattle.mesh_crossings.proofs.tidy.tidied.Goals as goal

pub returns-clause-same : goal.returns-clause-same
returns-clause-same c =
    let old = c.args.pairs.items in
    let mid = c.sort.new.pairs in
    let moved : IsPermutation old mid = subst (λ (z : List Pair). IsPermutation z mid) c.deref_mut.ensures.value c.sort.ensures.moved in
    let read : c.deref.result.now ≡ mid =
    c.deref.ensures.value
    ∙ take_at mid (drop (length mid) old) c.args.pairs.len
    (let n = length_permutation old mid moved in
    let m = c.args.pairs.ok.0 in
    omega arith) in
    moved_pairs old mid _ moved (subst (λ (z : List Pair). AreSamePairs z c.in_ok-list.list.items) read c.in_ok-list.ensures.same)
