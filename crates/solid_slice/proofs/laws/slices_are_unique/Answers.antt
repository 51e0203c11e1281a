use Rattle.solid_slice.proofs.Uniqueness.{slice_is_one, refusal_is_one, balanced_is_sliced}
use Rattle.solid_slice.proofs.laws.slices_are_unique.Goals as goal

pub returns-clause-slice : goal.returns-clause-slice
returns-clause-slice c = slice_is_one

pub returns-clause-refusal : goal.returns-clause-refusal
returns-clause-refusal c = refusal_is_one

pub returns-clause-apart : goal.returns-clause-apart
returns-clause-apart c = balanced_is_sliced
