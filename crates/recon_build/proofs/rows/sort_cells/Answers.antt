use Rattle.std.proofs.lemmas.List.Sorted.{IsNonDecreasingBy-from_sort, answers_always}
use Rattle.std.proofs.Common.{rules}
use Rattle.cell_net.specs.Gathered.{row_key}
use Rattle.recon_build.proofs.rows.sort_cells.Goals as goal

pub returns-clause-sorted : goal.returns-clause-sorted
returns-clause-sorted c =
    IsNonDecreasingBy-from_sort row_key _
    (c.sort_unstable_by_key.ensures.sorted row_key (answers_always _ _ _ (λ f a r g h. search rules)))
