use Rattle.std.proofs.Common.{Result, Ok, Err, OnErr}
use Rattle.host.proofs.Changes.{failed_last}
use Rattle.host.proofs.calls.write_file.Goals as goal

-- what follows from a fact follows after an error
OnErr-map : {T E : Type 0} (r : Result T E) (P Q : Type 0) → (P → Q) → OnErr r P → OnErr r Q
OnErr-map (Ok x) P Q f h = h
OnErr-map (Err e) P Q f h = f h

pub returns-clause-failed : goal.returns-clause-failed
returns-clause-failed g c =
    OnErr-map c.finish-finished.result _ _
    (failed_last c.args.name.now c.args.bytes.now
    (g.H.Host.state c.args.host.now) (g.H.Host.state c.create.new.self) (g.H.Host.state c.append_all-added.new.host)
    (g.H.Host.state c.finish-finished.new.self)
    c.in_ok-create.ensures.created c.in_ok-added.ensures.added)
    c.finish-finished.ensures.failed
