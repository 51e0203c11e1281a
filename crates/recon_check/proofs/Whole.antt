-- Answers from what is known of the two texts.
--
-- Texts of a solution have the answer Yes, and no second one (one_answer): so whatever is answered of them is that Yes (built_yes), and
-- what is answered by a reason has no solution's texts (not_accepted). A fault over the complex of the scan is a fault (reason_fault), and
-- a fault of what the text states is the answer, since no fault is one of the three by which a text is refused (fault_answer).
use Rattle.std.proofs.Common.{ℕ, ◌≡◌, inl, inr, refl, List}
use Rattle.certificate.specs.Stamps.{StampView}
use Rattle.certificate.specs.Certificates.{Claim, IsWellFormed}
use Rattle.cert_text.specs.Texts.{cert_text}
use Rattle.flow_net.specs.declared.votes.Settings.{Settings}
use Rattle.solution.specs.Scans.{scene_of_scan}
use Rattle.solution.specs.Solutions.{HasCounts}
use Rattle.scan_rows.specs.Shown.{Shown}
use Rattle.visibility.specs.Complexes.{Complex}
use Rattle.visibility.specs.Votes.{IsComplexOf}
use Rattle.recon_check.specs.Answers.{IsReason, IsFault, IsFaultHere, IsAccepted, IsAnswer, IsYesWhereSolved}
use Rattle.recon_check.specs.declared.answer.Answer.{Answer}
use Rattle.recon_check.specs.declared.answer.Answer.TheVariants.{No}
use Rattle.recon_check.specs.declared.answer.Reason.{Reason}
use Rattle.recon_check.specs.declared.answer.Reason.TheVariants.{CertLine, CertOrder, CertCut, OtherCounts}
use Rattle.recon_check.proofs.Uniqueness.{one_answer}

-- texts of a solution are answered by Yes, and by nothing else
pub built_yes : (scan : Shown) (settings : Settings) (stamp : StampView) (mesh cert : List ℕ) (answer : Answer)
    → IsAnswer scan settings stamp mesh cert answer → IsYesWhereSolved scan settings stamp mesh cert answer
built_yes scan settings stamp mesh cert answer h surface claim solution formed stamped mesh_is cert_is =
    one_answer scan settings stamp mesh cert answer _ h (record {
      claim = claim;
      well_formed = formed;
      text_is = cert_is;
      holds = (
        stamped,
        record {
          shown = record { surface = surface; mesh_is = mesh_is; solution = solution };
          inside_is = refl;
          faces_is = refl;
          cost_is = refl;
        },
      );
    })

-- so what is answered by a reason is not accepted
pub not_accepted : (scan : Shown) (settings : Settings) (stamp : StampView) (mesh cert : List ℕ) (reason : Reason)
    → IsAnswer scan settings stamp mesh cert (No reason) → IsAccepted scan settings stamp mesh cert → ⊥
not_accepted scan settings stamp mesh cert reason h accepted =
    let solved = accepted.holds.1 in
    let same =
    built_yes scan settings stamp mesh cert (No reason) h solved.surface accepted.claim solved.solution accepted.well_formed
    accepted.holds.0 solved.mesh_is accepted.text_is in
    cc same

-- the first fault of a certificate is the answer
pub fault_answer : (scan : Shown) (settings : Settings) (stamp : StampView) (mesh cert : List ℕ) (claim : Claim)
    (reason : Reason) → IsWellFormed claim → cert ≡ cert_text claim → IsFaultHere scan settings stamp mesh claim reason
    → IsAnswer scan settings stamp mesh cert (No reason)
fault_answer scan settings stamp mesh cert claim (CertLine n) formed text (inl h) = absurd h.part
fault_answer scan settings stamp mesh cert claim (CertLine n) formed text (inr h) = absurd (h.1).reason_is
fault_answer scan settings stamp mesh cert claim (CertOrder n) formed text (inl h) = absurd h.part
fault_answer scan settings stamp mesh cert claim (CertOrder n) formed text (inr h) = absurd (h.1).reason_is
fault_answer scan settings stamp mesh cert claim CertCut formed text (inl h) = absurd h.part
fault_answer scan settings stamp mesh cert claim CertCut formed text (inr h) = absurd (h.1).reason_is
fault_answer scan settings stamp mesh cert claim reason formed text h =
    record { claim = claim; well_formed = formed; text_is = text; holds = h }

-- the first fault over the scan's cells and facets is a fault
pub reason_fault : (scan : Shown) (settings : Settings) (complex : Complex) (mesh : List ℕ) (claim : Claim)
    → HasCounts claim scan settings → IsComplexOf (scene_of_scan scan settings) complex
    → (reason : Reason) → IsReason scan (scene_of_scan scan settings) complex claim mesh reason
    → IsFault scan settings mesh claim reason
reason_fault scan settings complex mesh claim counts is (OtherCounts which stated here) h = absurd h
reason_fault scan settings complex mesh claim counts is reason h =
    record { counts = counts; complex = complex; complex_is = is; reason_is = h }
