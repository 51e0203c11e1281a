use Rattle.std.proofs.Common.{◌*◌, length, map}
use Rattle.certificate.specs.declared.certificate.FlowRow.{FlowRow}
use Rattle.recon_check.specs.Lookups.{AreSidesFound}
use Rattle.recon_check.proofs.stated.all_sides.Given as goal

abbrev pub invariant-loop-number : goal.invariant-loop-number
invariant-loop-number l =
    AreSidesFound l.t.slots l.fixed (4 * length l.fixed) l.number (map (λ (row : FlowRow). row.facet) l.rows) l.sides.items
