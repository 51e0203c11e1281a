-- The pieces are sorted through a borrowed slice, so `moved` and `read` first say what they are afterwards.
use Rattle.std.proofs.Common.{◌≡◌, List, length, drop, take, ◌++◌, sym, subst, arith}
use Rattle.std.specs.List.Sorted.{IsPermutation}
use Rattle.std.proofs.lemmas.List.{take_at}
use Rattle.std.proofs.lemmas.List.Sorted.{length_permutation}
use Rattle.mesh_edges.specs.declared.pairs.Pair.{Pair}
use Rattle.mesh_pieces.specs.Chosen.{ArePieceKeys}
use Rattle.mesh_pieces.proofs.Sizes.{keys_moved}
use Rattle.mesh_pieces.proofs.largest.sorted_pieces.Goals as goal

pub returns-clause-pieces : goal.returns-clause-pieces
returns-clause-pieces c =
    let old = c.in_ok-list.list.items in
    let mid = c.sort.new.pieces in
    let moved : IsPermutation old mid = subst (λ (z : List Pair). IsPermutation z mid) c.deref_mut.ensures.value c.sort.ensures.moved in
    let read : mid ≡ take c.in_ok-list.list.len (mid ++ drop (length mid) old) =
    sym (take_at mid (drop (length mid) old) c.in_ok-list.list.len
    (let n = length_permutation old mid moved in
    let m = c.in_ok-list.list.ok.0 in
    omega arith)) in
    subst (λ (ps : List Pair). ArePieceKeys c.args.firsts.now c.args.sizes.now (length c.args.firsts.now) ps) read
    (keys_moved c.args.firsts.now c.args.sizes.now (length c.args.firsts.now) old mid moved c.in_ok-list.ensures)
