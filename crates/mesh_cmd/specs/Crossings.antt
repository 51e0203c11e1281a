-- What a line says of the pairs of faces that cross.
--
--   first_pair_text first        the first pair that crosses, if any does
--   crossings_text counts        the numbers of pairs that cross and of undecided ones, and the first pair
use Rattle.std.specs.Prelude.{ℕ, List, [], Option, Some, None, ◌++◌, codes}
use Rattle.mesh_edges.specs.declared.pairs.Pair.{Pair}
use Rattle.mesh_crossings.specs.declared.counts.CrossingCounts.{CrossingCounts}
use Rattle.command_run.specs.Lines.{labelled}

-- the first pair that crosses, by the numbers of its faces
unfoldable pub first_pair_text : Option Pair → List ℕ
first_pair_text None = []
first_pair_text (Some pair) = labelled (codes " first_pair ") pair.first ++ labelled (codes " ") pair.second

-- ` crossing_pairs C undecided_pairs U`, and ` first_pair I J` if any pair crosses
unfoldable pub crossings_text : CrossingCounts → List ℕ
crossings_text counts =
    labelled (codes " crossing_pairs ") counts.crossing
    ++ (labelled (codes " undecided_pairs ") counts.undecided ++ first_pair_text counts.first)
