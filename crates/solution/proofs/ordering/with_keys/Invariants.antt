use Rattle.std.proofs.Common.{◌≡◌, take, map}
use Rattle.solution.specs.Ordering.{the_sight}
use Rattle.solution.proofs.ordering.with_keys.Given as goal

abbrev pub invariant-loop-sight : goal.invariant-loop-sight
invariant-loop-sight l = map the_sight l.list.items ≡ take l.sight-index l.sights
