use Rattle.std.proofs.Common.{ℕ, ◌≡◌, ◌<◌, ◌++◌, length, Contains}
use Rattle.std.specs.List.{flat_map}
use Rattle.tetra_store.specs.declared.link.Cell.{Cell}
use Rattle.recon_build.specs.Walks.{flows_if_any, all_flows}
use Rattle.recon_build.proofs.rows.side_amounts.Given as goal

abbrev pub invariant-loop-id : goal.invariant-loop-id
invariant-loop-id l = record {
  pushed : l.rows.items ++ flat_map (flows_if_any l.amounts) l.cells ≡ all_flows l.amounts l.t.slots;
  below : (e : ℕ × Cell) → Contains l.cells e → e.0 < length l.t.slots;
}

abbrev pub decreases-loop-id : goal.decreases-loop-id
decreases-loop-id l = length l.cells
