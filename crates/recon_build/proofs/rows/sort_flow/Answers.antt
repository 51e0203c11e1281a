use Rattle.std.proofs.lemmas.List.Sorted.{IsNonDecreasingBy-from_sort, answers_always}
use Rattle.std.proofs.Common.{rules}
use Rattle.recon_build.specs.RowKeys.{key_of_flow}
use Rattle.recon_build.proofs.rows.sort_flow.Goals as goal

pub returns-clause-sorted : goal.returns-clause-sorted
returns-clause-sorted c =
    IsNonDecreasingBy-from_sort key_of_flow _
    (c.sort_unstable_by_key.ensures.sorted key_of_flow (answers_always _ _ _ (λ f a r g h. search rules)))
