use Rattle.std.proofs.Common.{◌≡◌, length, map}
use Rattle.certificate.specs.declared.certificate.SinkRow.{SinkRow}
use Rattle.recon_check.proofs.Lookups.{ArePlaced}
use Rattle.recon_check.proofs.stated.sinks_at.Given as goal

abbrev pub invariant-loop-place : goal.invariant-loop-place
invariant-loop-place l =
    (length l.amounts.items ≡ l.count)
    × ArePlaced (map (λ (row : SinkRow). row.amount) l.rows) l.numbers l.amounts.items l.place
