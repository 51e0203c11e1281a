-- What is returned is an answer: the Yes of what was shown, or the reason that was found. As no texts have two answers, it is the only one
-- (one_answer), Yes where they are those of a solution (built_yes), and else none is accepted.
use Rattle.certificate.specs.Certificates.{stamp_view}
use Rattle.scan_rows.specs.Views.{shown_of}
use Rattle.recon_check.specs.Answers.{IsAnswer}
use Rattle.recon_check.specs.declared.answer.Answer.TheVariants.{Yes, No}
use Rattle.recon_check.proofs.Uniqueness.{one_answer}
use Rattle.recon_check.proofs.Whole.{built_yes, not_accepted}
use Rattle.recon_check.proofs.checking.check_all.Goals as goal
use Rattle.recon_check.proofs.checking.check_all.Goals.{After-drop-shown-in-Yes-2, In-No}

yes_is : (c : After-drop-shown-in-Yes-2) → IsAnswer (shown_of c.args.scan.now) c.args.settings (stamp_view c.args.stamp.now) c.args.mesh.now
    c.args.cert.now (Yes c.in-Yes.shown.inside c.in-Yes.shown.faces c.in-Yes.shown.cost)
yes_is c = rw c.in-Yes.is at c.in_ok-shown.ensures.answer

pub returns-in-Yes-clause-only : goal.returns-in-Yes-clause-only
returns-in-Yes-clause-only c = λ answer h.
    one_answer (shown_of c.args.scan.now) c.args.settings (stamp_view c.args.stamp.now) c.args.mesh.now c.args.cert.now _ answer
    (yes_is c) h

pub returns-in-Yes-clause-built : goal.returns-in-Yes-clause-built
returns-in-Yes-clause-built c =
    built_yes (shown_of c.args.scan.now) c.args.settings (stamp_view c.args.stamp.now) c.args.mesh.now c.args.cert.now _ (yes_is c)

no_is : (c : In-No) → IsAnswer (shown_of c.args.scan.now) c.args.settings (stamp_view c.args.stamp.now) c.args.mesh.now
    c.args.cert.now (No c.in-No.reason)
no_is c = rw c.in-No.is at c.in_ok-shown.ensures.answer

pub returns-in-No-clause-only : goal.returns-in-No-clause-only
returns-in-No-clause-only c = λ answer h.
    one_answer (shown_of c.args.scan.now) c.args.settings (stamp_view c.args.stamp.now) c.args.mesh.now c.args.cert.now _ answer
    (no_is c) h

pub returns-in-No-clause-yes : goal.returns-in-No-clause-yes
returns-in-No-clause-yes c = (
  λ h. absurd h,
  not_accepted (shown_of c.args.scan.now) c.args.settings (stamp_view c.args.stamp.now) c.args.mesh.now c.args.cert.now c.in-No.reason
      (no_is c),
)

pub returns-in-No-clause-built : goal.returns-in-No-clause-built
returns-in-No-clause-built c =
    built_yes (shown_of c.args.scan.now) c.args.settings (stamp_view c.args.stamp.now) c.args.mesh.now c.args.cert.now _ (no_is c)
