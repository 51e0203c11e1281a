use Rattle.std.proofs.Common.{rules}
use Rattle.std.proofs.lemmas.List.Sorted.{IsNonDecreasingBy-from_sort, answers_always}
use Rattle.mesh_edges.specs.Matching.{order_of}
use Rattle.mesh_edges.proofs.matching.sort.Goals as goal

pub returns-clause-sorted : goal.returns-clause-sorted
returns-clause-sorted c =
    IsNonDecreasingBy-from_sort order_of _
    (c.sort_unstable_by_key.ensures.sorted order_of (answers_always _ _ _ (λ f a r g h. search rules)))
