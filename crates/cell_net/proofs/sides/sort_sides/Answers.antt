use Rattle.std.proofs.lemmas.List.Sorted.{IsNonDecreasingBy-from_sort, answers_always}
use Rattle.std.proofs.Common.{rules}
use Rattle.cell_net.specs.Gathered.{key_of_side}
use Rattle.cell_net.proofs.sides.sort_sides.Goals as goal

pub returns-clause-sorted : goal.returns-clause-sorted
returns-clause-sorted c =
    IsNonDecreasingBy-from_sort key_of_side _
    (c.sort_unstable_by_key.ensures.sorted key_of_side (answers_always _ _ _ (λ f a r g h. search rules)))
