use Rattle.std.proofs.Common.{◌*◌, length, map}
use Rattle.certificate.specs.declared.certificate.FlowRow.{FlowRow}
use Rattle.recon_check.specs.Lookups.{AreSidesFound}
use Rattle.recon_check.proofs.stated.sides_in_order.Given as goal

abbrev pub invariant-loop-number : goal.invariant-loop-number
invariant-loop-number l =
    AreSidesFound l.t.slots l.fixed (4 * length l.fixed) 0 (map (λ (row : FlowRow). row.facet) l.rows) l.sides.items
