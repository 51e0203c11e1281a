use Rattle.std.proofs.Common.{◌≡◌, drop}
use Rattle.num_text.specs.WholeNumbers.{significant}
use Rattle.num_text.proofs.digits.without_zeros.Given as goal

abbrev pub invariant-loop-position : goal.invariant-loop-position
invariant-loop-position l = significant (drop l.position l.digits) ≡ significant l.digits
