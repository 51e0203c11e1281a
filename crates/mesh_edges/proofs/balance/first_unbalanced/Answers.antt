-- Whether each edge occurs as often as its reverse, by two sorted lists.
--
-- Each edge stands in the one list as a pair of rising numbers, and each reverse in the other, as often as faces have them
-- (IsPairOf). Where the lists have every pair equally often the mesh is balanced (balanced); else the first pair that the
-- one has more often, or the other, is the smallest edge that is not, with both counts (unbalanced). A face has an edge
-- once, so counts fit 32 bits (few).
use Rattle.std.proofs.Common.{ℕ, ◌<◌, ◌^◌, List, length, arith, subst, sym, ap, ◌∙◌}
use Rattle.mesh_edges.specs.Pairs.{key_of_pair, key_count, IsPairOf, IsFirstUnequalPair}
use Rattle.mesh_edges.specs.declared.pairs.Pair.{Pair}
use Rattle.mesh_edges.proofs.EdgeCounts.{balanced, unbalanced, each_among, few}
use Rattle.mesh_edges.proofs.balance.first_unbalanced.Goals as goal

pub returns-in-None-clause-balanced : goal.returns-in-None-clause-balanced
returns-in-None-clause-balanced c =
    let faces = c.args.mesh.now.faces.items in
    let pairs =
    subst (λ (fs : List (List ℕ)). IsPairOf fs c.in_ok-sides.sides.there.items c.in_ok-sides.sides.back.items)
    c.deref.ensures.value c.in_ok-sides.ensures.pairs in
    balanced faces c.in_ok-sides.sides.there.items c.in_ok-sides.sides.back.items
    (each_among (length c.args.mesh.now.points.items) faces c.requires.few_points c.requires.each) pairs
    (λ k. ap (key_count k) (sym c.deref-2.ensures.value)
    ∙ (c.in-None.ensures.none k ∙ ap (key_count k) c.deref-3.ensures.value))

pub overflow_cast-result : goal.overflow_cast-result
overflow_cast-result c =
    let faces = c.args.mesh.now.faces.items in
    let pairs =
    subst (λ (fs : List (List ℕ)). IsPairOf fs c.in_ok-sides.sides.there.items c.in_ok-sides.sides.back.items)
    c.deref.ensures.value c.in_ok-sides.ensures.pairs in
    let p = c.in-Some.pair in
    let small : p.second < 2 ^ 32 = omega arith in
    omega (
      arith,
      c.count.ensures,
      ap (key_count (key_of_pair p)) c.deref-in-Some.ensures.value,
      pairs.there_count p.first p.second c.in-Some.ensures.some.1 small,
      few faces p.first p.second,
      c.requires.few_faces,
    )

pub overflow_cast-result-in-Some : goal.overflow_cast-result-in-Some
overflow_cast-result-in-Some c =
    let faces = c.args.mesh.now.faces.items in
    let pairs =
    subst (λ (fs : List (List ℕ)). IsPairOf fs c.in_ok-sides.sides.there.items c.in_ok-sides.sides.back.items)
    c.deref.ensures.value c.in_ok-sides.ensures.pairs in
    let p = c.in-Some.pair in
    let small : p.second < 2 ^ 32 = omega arith in
    omega (
      arith,
      c.count-in-Some.ensures,
      ap (key_count (key_of_pair p)) c.deref-in-Some-2.ensures.value,
      pairs.back_count p.first p.second c.in-Some.ensures.some.1 small,
      few faces p.second p.first,
      c.requires.few_faces,
    )

pub returns-clause-unbalanced : goal.returns-clause-unbalanced
returns-clause-unbalanced c =
    let faces = c.args.mesh.now.faces.items in
    let pairs =
    subst (λ (fs : List (List ℕ)). IsPairOf fs c.in_ok-sides.sides.there.items c.in_ok-sides.sides.back.items)
    c.deref.ensures.value c.in_ok-sides.ensures.pairs in
    let p = c.in-Some.pair in
    let small : p.second < 2 ^ 32 = omega arith in
    let first =
    subst (λ (t : List Pair). IsFirstUnequalPair t c.in_ok-sides.sides.back.items p) c.deref-2.ensures.value
    (subst (λ (t : List Pair). IsFirstUnequalPair c.deref-2.result.now t p) c.deref-3.ensures.value c.in-Some.ensures.some.0) in
    unbalanced faces c.in_ok-sides.sides.there.items c.in_ok-sides.sides.back.items
    (each_among (length c.args.mesh.now.points.items) faces c.requires.few_points c.requires.each) pairs p _ _ small
    c.in-Some.ensures.some.1 first
    (c.count.ensures ∙ ap (key_count (key_of_pair p)) c.deref-in-Some.ensures.value)
    (c.count-in-Some.ensures ∙ ap (key_count (key_of_pair p)) c.deref-in-Some-2.ensures.value)
