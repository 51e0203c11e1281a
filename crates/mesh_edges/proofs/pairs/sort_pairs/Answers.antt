use Rattle.std.proofs.Common.{rules}
use Rattle.std.proofs.lemmas.List.Sorted.{IsNonDecreasingBy-from_sort, answers_always}
use Rattle.mesh_edges.specs.Pairs.{key_of_pair}
use Rattle.mesh_edges.proofs.pairs.sort_pairs.Goals as goal

pub returns-clause-sorted : goal.returns-clause-sorted
returns-clause-sorted c =
    IsNonDecreasingBy-from_sort key_of_pair _
    (c.sort_unstable_by_key.ensures.sorted key_of_pair (answers_always _ _ _ (λ f a r g h. search rules)))
