-- The tests come one after another, and each begins from what those before it have shown: rows within limits, a valid flow, labels that
-- cost what it is worth. So a reason that is told where that holds is told where all rows are there, and the last test shows the labels
-- best.
use Rattle.std.proofs.lemmas.Result.{on_ok_weaker}
use Rattle.certificate.specs.Certificates.{claim_of}
use Rattle.recon_check.specs.Over.{IsThereOver, TellsOver}
use Rattle.recon_check.proofs.Stopped.{passed_on, result_weaker, stop_weaker}
use Rattle.recon_check.proofs.faults.show_best.Goals as goal

pub returns-in_err-show_balanced-clause-fault : goal.returns-in_err-show_balanced-clause-fault
returns-in_err-show_balanced-clause-fault c =
    passed_on c.from_residual.result c.in_err-show_balanced.field-0.0
    (TellsOver c.args.net.now (claim_of c.args.cert.now) c.args.stated.now IsThereOver) c.from_residual.ensures.1
    (stop_weaker c.in_err-show_balanced.field-0.0 _ _
    (λ reason tells scan s complex mesh over there.
    tells scan s complex mesh over (c.in_default.ensures.none s complex over there))
    c.in_err-show_balanced.ensures.fault)

pub returns-in-Some-not_equal-clause-fault : goal.returns-in-Some-not_equal-clause-fault
returns-in-Some-not_equal-clause-fault c = λ scan s complex mesh over there.
    c.in-Some-not_equal.ensures.some scan s complex mesh over
    (c.in_ok-show_balanced.ensures.valid s complex over (c.in_default.ensures.none s complex over there))

pub show_least-requires-clause-certified : goal.show_least-requires-clause-certified
show_least-requires-clause-certified c =
    let h = c.requires.over in (
      h.0,
      h.1,
      h.2,
      c.in_default-not_equal.ensures.none h.0 h.1 h.2
          (c.in_ok-show_balanced.ensures.valid h.0 h.1 h.2 (c.in_default.ensures.none h.0 h.1 h.2 h.3)),
    )

pub returns-clause-fault : goal.returns-clause-fault
returns-clause-fault c =
    result_weaker c.show_least.result _ _
    (λ reason tells scan s complex mesh over there.
    tells scan s complex mesh over
    (c.in_default-not_equal.ensures.none s complex over
    (c.in_ok-show_balanced.ensures.valid s complex over (c.in_default.ensures.none s complex over there))))
    c.show_least.ensures.fault

pub returns-clause-best : goal.returns-clause-best
returns-clause-best c =
    on_ok_weaker c.show_least.result
    (λ shows s complex over there.
    shows s complex over
    (c.in_default-not_equal.ensures.none s complex over
    (c.in_ok-show_balanced.ensures.valid s complex over (c.in_default.ensures.none s complex over there))))
    c.show_least.ensures.best
