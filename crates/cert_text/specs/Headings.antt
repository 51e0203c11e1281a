-- The counts, the weights and the cost that are read before the lists.
use Rattle.cert_text.specs.declared.read.Heading.{Heading}
use Rattle.certificate.specs.Certificates.{Counts}

-- the heading in the code as a value of the definitions
abbrev pub counts_of : Heading → Counts
counts_of h =
    record { points = h.points; scanners = h.scanners; sights = h.sights; vote = h.vote; smooth = h.smooth; cost = h.cost }
