-- The roots are sorted through a borrowed slice, so `moved` and `read` first say what they are afterwards.
use Rattle.std.proofs.Common.{◌≡◌, List, length, drop, take, ◌++◌, sym, subst, arith}
use Rattle.std.specs.List.Sorted.{IsPermutation}
use Rattle.std.proofs.lemmas.List.{take_at}
use Rattle.std.proofs.lemmas.List.Sorted.{length_permutation}
use Rattle.mesh_edges.specs.declared.pairs.Pair.{Pair}
use Rattle.mesh_pieces.specs.Vertices.{AreRoots}
use Rattle.mesh_pieces.proofs.Numbers.{roots_moved}
use Rattle.mesh_pieces.proofs.vertices.sorted_roots.Goals as goal

pub returns-clause-roots : goal.returns-clause-roots
returns-clause-roots c =
    let old = c.in_ok-list.list.items in
    let mid = c.sort.new.pairs in
    let moved : IsPermutation old mid = subst (λ (z : List Pair). IsPermutation z mid) c.deref_mut.ensures.value c.sort.ensures.moved in
    let read : mid ≡ take c.in_ok-list.list.len (mid ++ drop (length mid) old) =
    sym (take_at mid (drop (length mid) old) c.in_ok-list.list.len
    (let n = length_permutation old mid moved in
    let m = c.in_ok-list.list.ok.0 in
    omega arith)) in
    subst (λ (ps : List Pair). AreRoots c.args.faces.now c.args.roots.now (length c.args.roots.now) ps) read
    (roots_moved c.args.faces.now c.args.roots.now (length c.args.roots.now) old mid moved c.in_ok-list.ensures)
