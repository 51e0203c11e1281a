use Rattle.std.proofs.Common.{ℕ, ◌≡◌, ◌<◌, false, length, get_or}
use Rattle.geo_sign.specs.Point.{origin}
use Rattle.tetra_store.specs.Links.{links_of, IsLive}
use Rattle.solid_query.specs.Solids.{IsFlaggedAs}
use Rattle.solid_query.proofs.asking.flags_at.Given as goal

abbrev pub invariant-loop-point : goal.invariant-loop-point
invariant-loop-point g l =
    record {
      live : IsLive (links_of l.t.slots) l.cell;
      count : length l.found.items ≡ l.point-index;
      each : (k : ℕ) → k < l.point-index → IsFlaggedAs l.t l.flags (get_or l.points k origin) (get_or l.found.items k false);
    }
