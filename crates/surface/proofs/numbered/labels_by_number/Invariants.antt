use Rattle.std.proofs.Common.{ℕ, ◌≡◌, ◌<◌, vec_len, get_or}
use Rattle.flow_net.specs.Nets.{flag_at}
use Rattle.surface.proofs.numbered.labels_by_number.Given as goal

abbrev pub invariant-loop-node : goal.invariant-loop-node
invariant-loop-node l =
    (vec_len l.inside ≡ l.limit)
    × ((k : ℕ) → k < l.node → flag_at l.inside.items (get_or l.ids k 0) ≡ flag_at l.flags k)
