use Rattle.std.proofs.Common.{◌≡◌, ◌≤◌, length, map, take}
use Rattle.mesh_edges.specs.Pairs.{key_of_pair}
use Rattle.mesh_edges.proofs.balance.first_difference.Given as goal

abbrev pub invariant-loop-at : goal.invariant-loop-at
invariant-loop-at l =
    record { same : map key_of_pair (take l.at l.there) ≡ map key_of_pair (take l.at l.back); within : l.at ≤ length l.back }
