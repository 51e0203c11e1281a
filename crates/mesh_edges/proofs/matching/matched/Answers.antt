-- The half edges are sorted through borrowed slices and read through others, so `moved` and `read` say that these are the half edges.
use Rattle.std.proofs.Common.{ℕ, ◌≡◌, ◌*◌, ◌∙◌, List, length, drop, sym, subst, arith}
use Rattle.std.specs.List.Sorted.{IsPermutation, IsNonDecreasingBy}
use Rattle.std.proofs.lemmas.List.{take_at}
use Rattle.std.proofs.lemmas.List.Sorted.{length_permutation}
use Rattle.mesh_edges.specs.Matching.{AreHalves, AreTwinsByIndex, rises, falls, order_of}
use Rattle.mesh_edges.specs.declared.matching.Ranked.{Ranked}
use Rattle.mesh_edges.proofs.Sides.{halves_moved, all_paired}
use Rattle.mesh_edges.proofs.matching.matched.Goals as goal

pub link_all-requires-clause-there : goal.link_all-requires-clause-there
link_all-requires-clause-there c =
    let faces = c.args.faces.now in
    let old = c.in_ok-sides.sides.there.items in
    let mid = c.sort.new.list in
    let moved : IsPermutation old mid =
    subst (λ (z : List Ranked). IsPermutation z mid) c.deref_mut.ensures.value c.sort.ensures.moved in
    let read : c.deref.result.now ≡ mid =
    c.deref.ensures.value
    ∙ take_at mid (drop (length mid) old) c.in_ok-sides.sides.there.len
    (let k = length_permutation old mid moved in
    let m = c.in_ok-sides.sides.there.ok.0 in
    omega arith) in
    subst (AreHalves faces (rises faces) (3 * length faces)) (sym read)
    (halves_moved faces (rises faces) (3 * length faces) old mid moved c.in_ok-sides.ensures.there)

pub link_all-requires-clause-back : goal.link_all-requires-clause-back
link_all-requires-clause-back c =
    let faces = c.args.faces.now in
    let old = c.in_ok-sides.sides.back.items in
    let mid = c.sort-2.new.list in
    let moved : IsPermutation old mid =
    subst (λ (z : List Ranked). IsPermutation z mid) c.deref_mut-2.ensures.value c.sort-2.ensures.moved in
    let read : c.deref-2.result.now ≡ mid =
    c.deref-2.ensures.value
    ∙ take_at mid (drop (length mid) old) c.in_ok-sides.sides.back.len
    (let k = length_permutation old mid moved in
    let m = c.in_ok-sides.sides.back.ok.0 in
    omega arith) in
    subst (AreHalves faces (falls faces) (3 * length faces)) (sym read)
    (halves_moved faces (falls faces) (3 * length faces) old mid moved c.in_ok-sides.ensures.back)

pub returns : goal.returns
returns c = λ closed.
    let faces = c.args.faces.now in
    let old_there = c.in_ok-sides.sides.there.items in
    let mid_there = c.sort.new.list in
    let moved_there : IsPermutation old_there mid_there =
    subst (λ (z : List Ranked). IsPermutation z mid_there) c.deref_mut.ensures.value c.sort.ensures.moved in
    let read_there : c.deref.result.now ≡ mid_there =
    c.deref.ensures.value
    ∙ take_at mid_there (drop (length mid_there) old_there) c.in_ok-sides.sides.there.len
    (let k = length_permutation old_there mid_there moved_there in
    let m = c.in_ok-sides.sides.there.ok.0 in
    omega arith) in
    let halves_there = halves_moved faces (rises faces) (3 * length faces) old_there mid_there moved_there c.in_ok-sides.ensures.there in
    let old_back = c.in_ok-sides.sides.back.items in
    let mid_back = c.sort-2.new.list in
    let moved_back : IsPermutation old_back mid_back =
    subst (λ (z : List Ranked). IsPermutation z mid_back) c.deref_mut-2.ensures.value c.sort-2.ensures.moved in
    let read_back : c.deref-2.result.now ≡ mid_back =
    c.deref-2.ensures.value
    ∙ take_at mid_back (drop (length mid_back) old_back) c.in_ok-sides.sides.back.len
    (let k = length_permutation old_back mid_back moved_back in
    let m = c.in_ok-sides.sides.back.ok.0 in
    omega arith) in
    let halves_back = halves_moved faces (falls faces) (3 * length faces) old_back mid_back moved_back c.in_ok-sides.ensures.back in
    let twins = c.in_ok-twins.twins.items in
    all_paired faces c.requires.each closed mid_there mid_back halves_there halves_back c.sort.ensures.sorted c.sort-2.ensures.sorted
    twins c.in_ok-twins.ensures.count
    (subst (λ (t : List Ranked). AreTwinsByIndex t mid_back twins) read_there
    (subst (λ (b : List Ranked). AreTwinsByIndex c.deref.result.now b twins) read_back c.in_ok-twins.ensures.linked))
