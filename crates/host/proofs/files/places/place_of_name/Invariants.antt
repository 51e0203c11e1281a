use Rattle.std.proofs.Common.{◌≡◌, ℕ, ◌<◌}
use Rattle.host.specs.Files.{name_at}
use Rattle.host.proofs.files.places.place_of_name.Given as goal

abbrev pub invariant-loop-i : goal.invariant-loop-i
invariant-loop-i l = (k : ℕ) → k < l.i → name_at l.files k ≡ l.name → ⊥
