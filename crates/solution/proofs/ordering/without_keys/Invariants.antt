use Rattle.std.proofs.Common.{◌≡◌, take, map}
use Rattle.solution.specs.Ordering.{the_sight}
use Rattle.solution.proofs.ordering.without_keys.Given as goal

abbrev pub invariant-loop-item : goal.invariant-loop-item
invariant-loop-item l = l.sights.items ≡ map the_sight (take l.item-index l.list)
