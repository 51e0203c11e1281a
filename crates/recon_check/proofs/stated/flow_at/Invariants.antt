use Rattle.std.proofs.Common.{◌≡◌, length, map}
use Rattle.certificate.specs.declared.certificate.FlowRow.{FlowRow}
use Rattle.recon_check.proofs.Lookups.{ArePlaced}
use Rattle.recon_check.proofs.stated.flow_at.Given as goal

abbrev pub invariant-loop-place : goal.invariant-loop-place
invariant-loop-place l =
    (length l.amounts.items ≡ l.count)
    × ArePlaced (map (λ (row : FlowRow). row.amount) l.rows) l.numbers l.amounts.items l.place
