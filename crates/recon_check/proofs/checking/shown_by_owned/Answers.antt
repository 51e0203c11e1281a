use Rattle.std.proofs.Common.{ℕ, List, IfOk, IfErr, subst, sym, ◌∙◌}
use Rattle.certificate.specs.Certificates.{stamp_view}
use Rattle.scan_rows.specs.Views.{shown_of}
use Rattle.recon_check.specs.Answers.{IsAnswer}
use Rattle.recon_check.specs.Stops.{StopsFor}
use Rattle.recon_check.specs.declared.answer.Answer.TheVariants.{Yes, No}
use Rattle.recon_check.specs.declared.answer.Reason.{Reason}
use Rattle.recon_check.specs.declared.checking.Confirmed.{Confirmed}
use Rattle.recon_check.proofs.Stopped.{passed_on}
use Rattle.recon_check.proofs.checking.shown_by_owned.Goals as goal

pub returns-in_err-cert-clause-fault : goal.returns-in_err-cert-clause-fault
returns-in_err-cert-clause-fault g c =
    subst
    (λ (text : List ℕ). IfErr c.from_residual.result (StopsFor (λ (reason : Reason). IsAnswer (shown_of c.args.scan.now)
    c.args.settings (stamp_view c.args.stamp.now) c.args.texts.mesh.now text (No reason)))) c.deref.ensures.value
    (passed_on c.from_residual.result c.in_err-cert.field-0.0 _ c.from_residual.ensures.1
    (c.in_err-cert.ensures.refused (shown_of c.args.scan.now) c.args.settings (stamp_view c.args.stamp.now)
    c.args.texts.mesh.now))

pub returns-clause-shown : goal.returns-clause-shown
returns-clause-shown g c =
    subst
    (λ (text : List ℕ). IfOk c.shown_by_claim.result (λ (shown : Confirmed). IsAnswer (shown_of c.args.scan.now)
    c.args.settings (stamp_view c.args.stamp.now) c.args.texts.mesh.now text (Yes shown.inside shown.faces shown.cost)))
    (sym (sym c.deref.ensures.value ∙ c.in_ok-cert.ensures.text)) c.shown_by_claim.ensures.shown

pub returns-clause-fault : goal.returns-clause-fault
returns-clause-fault g c =
    subst
    (λ (text : List ℕ). IfErr c.shown_by_claim.result (StopsFor (λ (reason : Reason). IsAnswer (shown_of c.args.scan.now)
    c.args.settings (stamp_view c.args.stamp.now) c.args.texts.mesh.now text (No reason))))
    (sym (sym c.deref.ensures.value ∙ c.in_ok-cert.ensures.text)) c.shown_by_claim.ensures.fault
