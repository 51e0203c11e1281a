use Rattle.std.proofs.Common.{◌≡◌, take, map}
use Rattle.curve_order.specs.Ranks.{the_number}
use Rattle.curve_order.proofs.sorting.numbers.Given as goal

abbrev pub invariant-loop-ranked : goal.invariant-loop-ranked
invariant-loop-ranked l = l.numbers.items ≡ map the_number (take l.ranked-index l.list)
