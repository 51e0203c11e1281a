use Rattle.std.proofs.lemmas.Option.{IfSome_then}
use Rattle.recon_check.proofs.faults.row_fault.Goals as goal

pub returns-in-Some-over_capacity-clause-some : goal.returns-in-Some-over_capacity-clause-some
returns-in-Some-over_capacity-clause-some c = λ scan s complex mesh over there.
    c.in-Some-over_capacity.ensures.some scan s complex mesh over (c.in_default.ensures.none s complex over there)

pub returns-clause-some : goal.returns-clause-some
returns-clause-some c =
    IfSome_then c.over_sink.result c.over_sink.ensures.some
    (λ reason tells scan s complex mesh over there.
    tells scan s complex mesh over
    (c.in_default-over_capacity.ensures.none s complex over (c.in_default.ensures.none s complex over there)))
