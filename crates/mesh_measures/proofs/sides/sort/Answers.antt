use Rattle.std.proofs.Common.{rules}
use Rattle.std.proofs.lemmas.List.Sorted.{IsNonDecreasingBy-from_sort, answers_always}
use Rattle.mesh_measures.specs.Sides.{side_key}
use Rattle.mesh_measures.proofs.sides.sort.Goals as goal

pub returns-clause-sorted : goal.returns-clause-sorted
returns-clause-sorted c =
    IsNonDecreasingBy-from_sort side_key _
    (c.sort_unstable_by_key.ensures.sorted side_key (answers_always _ _ _ (λ f a r g h. search rules)))
