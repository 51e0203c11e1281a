-- Sights with the keys by which they are sorted.
--
--   the_sight k     the sight of an entry that is sorted, without its key
use Rattle.flow_net.specs.declared.votes.Sight.{Sight}
use Rattle.solution.specs.declared.ordering.Keyed.{Keyed}

-- without its key
abbrev pub the_sight : Keyed → Sight
the_sight k = k.sight
