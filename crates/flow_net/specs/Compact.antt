-- Arcs in few bits.
--
--   no_pair                 what stands for the reverse of an arc that has none
--   pair_from pair          the reverse that a number of 32 bits stands for
--   widened narrow          the arc that an arc stored in few bits stands for
--   all_arcs                the arcs of few bits, and the others behind them
use Rattle.std.specs.Prelude.{ℕ, ◌==◌, List, ◌++◌, map, Option, Some, None, if◌then◌else◌}
use Rattle.flow_net.specs.declared.Arc.{Arc}
use Rattle.flow_net.specs.declared.compact.NarrowArc.{NarrowArc}

-- what stands for the reverse of an arc that has none: 2^32 - 1
abbrev pub no_pair : ℕ
no_pair = 4294967295

-- the reverse that a number stands for
abbrev pub pair_from : ℕ → Option ℕ
pair_from pair = if pair == no_pair then None else Some pair

-- the arc that one of few bits stands for
abbrev pub widened : NarrowArc → Arc
widened narrow = record { from = narrow.from; to = narrow.to; cap = narrow.cap; pair = pair_from narrow.pair }

-- the arcs of few bits, and the others behind them
abbrev pub all_arcs : List NarrowArc → List Arc → List Arc
all_arcs narrow wide = map widened narrow ++ wide
