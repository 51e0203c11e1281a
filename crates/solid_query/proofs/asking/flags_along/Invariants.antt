use Rattle.std.proofs.Common.{◌≡◌, length}
use Rattle.tetra_store.specs.Links.{links_of, IsLive}
use Rattle.solid_query.proofs.Along.{AreFlaggedAlong}
use Rattle.solid_query.proofs.asking.flags_along.Given as goal

abbrev pub invariant-loop-k : goal.invariant-loop-k
invariant-loop-k g l =
    record {
      live : IsLive (links_of l.t.slots) l.cell;
      count : length l.found.items ≡ length l.points;
      each : AreFlaggedAlong l.t l.flags l.points l.order.items l.k l.found.items;
    }
