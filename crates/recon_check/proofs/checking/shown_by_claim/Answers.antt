use Rattle.std.proofs.Common.{inl, inr, refl}
use Rattle.cert_text.specs.Texts.{cert_text}
use Rattle.certificate.specs.Certificates.{claim_of, stamp_view}
use Rattle.scan_rows.specs.Views.{shown_of}
use Rattle.recon_check.specs.Answers.{IsFault, IsAnswer}
use Rattle.recon_check.specs.declared.answer.Answer.TheVariants.{No}
use Rattle.recon_check.proofs.Stopped.{passed_on, stop_weaker}
use Rattle.recon_check.proofs.Whole.{fault_answer}
use Rattle.recon_check.proofs.checking.shown_by_claim.Goals as goal

pub returns-in-Some-clause-fault : goal.returns-in-Some-clause-fault
returns-in-Some-clause-fault g c =
    fault_answer (shown_of c.args.scan.now) c.args.settings (stamp_view c.args.stamp.now) c.args.claimed.mesh.now
    (cert_text (claim_of c.args.claimed.cert)) (claim_of c.args.claimed.cert) c.in-Some.reason c.requires refl
    (inl c.in-Some.ensures.other)

pub returns-in_err-inside-clause-fault : goal.returns-in_err-inside-clause-fault
returns-in_err-inside-clause-fault g c =
    passed_on c.from_residual.result c.in_err-inside.field-0.0
    (λ reason. IsAnswer (shown_of c.args.scan.now) c.args.settings (stamp_view c.args.stamp.now) c.args.claimed.mesh.now
    (cert_text (claim_of c.args.claimed.cert)) (No reason))
    c.from_residual.ensures.1
    (stop_weaker c.in_err-inside.field-0.0
    (IsFault (shown_of c.args.scan.now) c.args.settings c.args.claimed.mesh.now (claim_of c.args.claimed.cert)) _
    (λ reason h. fault_answer (shown_of c.args.scan.now) c.args.settings (stamp_view c.args.stamp.now) c.args.claimed.mesh.now
    (cert_text (claim_of c.args.claimed.cert)) (claim_of c.args.claimed.cert) reason c.requires refl
    (inr (c.in_default.ensures.same, h)))
    c.in_err-inside.ensures.fault)
