use Rattle.std.proofs.lemmas.List.Sorted.{IsNonDecreasingBy-from_sort, answers_always}
use Rattle.std.proofs.Common.{rules}
use Rattle.curve_order.specs.Ranks.{the_rank}
use Rattle.curve_order.proofs.sorting.sort.Goals as goal

pub returns-clause-sorted : goal.returns-clause-sorted
returns-clause-sorted c =
    IsNonDecreasingBy-from_sort the_rank _
    (c.sort_unstable_by_key.ensures.sorted the_rank (answers_always _ _ _ (λ f a r g h. search rules)))
