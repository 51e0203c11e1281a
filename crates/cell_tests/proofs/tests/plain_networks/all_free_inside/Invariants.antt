use Rattle.std.proofs.Common.{◌≡◌, not, map, take}
use Rattle.cell_tests.proofs.tests.plain_networks.all_free_inside.Given as goal

abbrev pub invariant-loop-fixed : goal.invariant-loop-fixed
invariant-loop-fixed l = l.inside.items ≡ map not (take l.fixed-index l.fixed-items)
