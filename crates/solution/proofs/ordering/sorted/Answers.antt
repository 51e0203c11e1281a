use Rattle.std.proofs.Common.{List, map, subst, take, drop, length, sym, arith, ◌≡◌, ◌++◌}
use Rattle.std.specs.List.Sorted.{IsPermutation}
use Rattle.std.proofs.lemmas.List.{take_at}
use Rattle.std.proofs.lemmas.List.Sorted.{IsPermutation-map, length_permutation}
use Rattle.flow_net.specs.declared.votes.Sight.{Sight}
use Rattle.solution.specs.declared.ordering.Keyed.{Keyed}
use Rattle.solution.specs.Ordering.{the_sight}
use Rattle.solution.proofs.ordering.sorted.Goals as goal

pub returns : goal.returns
returns c =
    let moved : IsPermutation c.in_ok-list.list.items c.sort.new.list =
    subst (λ (z : List Keyed). IsPermutation z c.sort.new.list) c.deref_mut.ensures.value c.sort.ensures in
    let n : length c.sort.new.list ≡ length c.in_ok-list.list.items =
    length_permutation c.in_ok-list.list.items c.sort.new.list moved in
    let read : take c.in_ok-list.list.len (c.sort.new.list ++ drop (length c.sort.new.list) c.in_ok-list.list.items)
    ≡ c.sort.new.list =
    take_at c.sort.new.list (drop (length c.sort.new.list) c.in_ok-list.list.items) c.in_ok-list.list.len
    (let m = c.in_ok-list.list.ok.0 in omega arith) in
    subst (λ (z : List Keyed). IsPermutation c.args.sights.now (map the_sight z)) (sym read)
    (subst (λ (z : List Sight). IsPermutation z (map the_sight c.sort.new.list)) c.in_ok-list.ensures
    (IsPermutation-map the_sight c.in_ok-list.list.items c.sort.new.list moved))
