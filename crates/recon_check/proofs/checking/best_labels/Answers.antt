-- The network is made of the scan's cells and counts, which have a complex, so what is stated by number is stated over it (checked_at). A
-- reason that is told of it is a fault, and where there is none the labels are the best (told_at): the value of the flow is their cost, which is
-- small.
use Rattle.std.proofs.Common.{◌≡◌, ◌∙◌, refl, arith}
use Rattle.certificate.specs.Certificates.{claim_of}
use Rattle.scan_rows.proofs.ShownLemmas.{scan_is_shown}
use Rattle.scan_rows.specs.Views.{shown_of}
use Rattle.solution.specs.Scans.{scene_of_scan}
use Rattle.visibility.specs.Complexes.{Complex}
use Rattle.visibility.specs.Cuts.{cost}
use Rattle.visibility.specs.Votes.{IsComplexOf}
use Rattle.recon_check.specs.Answers.{IsFault}
use Rattle.recon_check.specs.Claims.{is_inside}
use Rattle.recon_check.specs.Faults.{IsBest}
use Rattle.recon_check.specs.Stated.{IsFlaggedFor}
use Rattle.recon_check.proofs.BestLabels.{IsChecked, checked, cost_fits, flagged}
use Rattle.recon_check.proofs.CellFaults.{value_is}
use Rattle.recon_check.proofs.StatedRows.{listing}
use Rattle.recon_check.proofs.Stopped.{passed_on, stop_weaker}
use Rattle.recon_check.proofs.Whole.{reason_fault}
use Rattle.recon_check.proofs.checking.best_labels.Goals as goal
use Rattle.recon_check.proofs.checking.best_labels.Goals.{After-value-cost, After-deref, In_ok-stated}

-- ---- what is shared
flagged_at : (c : After-deref)
    → IsFlaggedFor (scene_of_scan (shown_of c.args.scan.now) c.args.settings) c.args.tetra.now.slots c.deref.result.now
flagged_at c =
    flagged _ c.args.tetra.now c.args.votes.crossed.items c.args.votes.behind.items c.requires.counts c.deref.ensures.value

checked_at : (c : In_ok-stated)
    → IsChecked (scene_of_scan (shown_of c.args.scan.now) c.args.settings) c.new-net.result (claim_of c.args.cert.now)
    c.in_ok-stated.stated
checked_at c =
    checked (scene_of_scan (shown_of c.args.scan.now) c.args.settings) c.new-net.result c.args.tetra.now c.args.votes.crossed.items
    c.args.votes.behind.items c.args.votes.fixed.items c.args.settings c.requires.counts (record {
      tetra = c.new-net.ensures.tetra;
      crossed_is = c.new-net.ensures.crossed ∙ c.store_counts.ensures.crossed;
      behind_is = c.new-net.ensures.behind ∙ c.store_counts.ensures.behind;
      fixed_is = c.new-net.ensures.fixed ∙ c.store_counts.ensures.fixed;
      settings_is = c.new-net.ensures.settings;
    }) refl (claim_of c.args.cert.now) c.in_ok-stated.stated c.deref.result.now c.requires.formed c.deref.ensures.value
    c.in_ok-stated.ensures.stated (c.in_ok-stated.ensures.there (scene_of_scan (shown_of c.args.scan.now) c.args.settings))

told_at : (c : After-value-cost)
    → (complex : Complex) × IsComplexOf (scene_of_scan (shown_of c.args.scan.now) c.args.settings) complex
    × IsBest (scene_of_scan (shown_of c.args.scan.now) c.args.settings) complex (claim_of c.args.cert.now)
    × (c.value-cost.result ≡ cost (scene_of_scan (shown_of c.args.scan.now) c.args.settings) complex (is_inside (claim_of c.args.cert.now)))
told_at c =
    let is = checked_at (goal.at.overflow_cast-cost c).In_ok-stated in
    let best =
    c.in_ok-show_best.ensures.best (scene_of_scan (shown_of c.args.scan.now) c.args.settings) is.complex is.over is.there in (
      is.complex,
      is.complex_is,
      best,
      c.value-cost.ensures.sum
          ∙ value_is (scene_of_scan (shown_of c.args.scan.now) c.args.settings) is.complex c.new-net.result (claim_of c.args.cert.now)
          c.in_ok-stated.stated is.over
          ∙ best.certified.equal,
    )

-- ---- the goals
pub stated_by-requires-clause-cells : goal.stated_by-requires-clause-cells
stated_by-requires-clause-cells c = ((scene_of_scan (shown_of c.args.scan.now) c.args.settings), flagged_at c)

pub returns-in_err-stated-clause-fault : goal.returns-in_err-stated-clause-fault
returns-in_err-stated-clause-fault c = λ mesh.
    let given = flagged_at (goal.at.returns-in_err-stated-clause-fault c).After-deref in
    let all = listing (scene_of_scan (shown_of c.args.scan.now) c.args.settings) c.args.tetra.now.slots c.deref.result.now given in
    passed_on c.from_residual.result c.in_err-stated.field-0.0 (IsFault (shown_of c.args.scan.now) c.args.settings mesh (claim_of c.args.cert.now))
    c.from_residual.ensures.1
    (stop_weaker c.in_err-stated.field-0.0 _ (IsFault (shown_of c.args.scan.now) c.args.settings mesh (claim_of c.args.cert.now))
    (λ reason tells. reason_fault (shown_of c.args.scan.now) c.args.settings all.complex mesh (claim_of c.args.cert.now)
    c.requires.stated all.complex_is reason
    (tells (shown_of c.args.scan.now) (scene_of_scan (shown_of c.args.scan.now) c.args.settings) all.complex mesh given all.complex_is))
    c.in_err-stated.ensures.stray)

pub show_best-requires-clause-stated : goal.show_best-requires-clause-stated
show_best-requires-clause-stated c = (checked_at (goal.at.show_best-requires-clause-stated c).In_ok-stated).over.stated_is

pub show_best-requires-clause-over : goal.show_best-requires-clause-over
show_best-requires-clause-over c =
    let is = checked_at (goal.at.show_best-requires-clause-over c).In_ok-stated in
    ((scene_of_scan (shown_of c.args.scan.now) c.args.settings), is.complex, is.over, is.there)

pub returns-in_err-show_best-clause-fault : goal.returns-in_err-show_best-clause-fault
returns-in_err-show_best-clause-fault c = λ mesh.
    let is = checked_at (goal.at.returns-in_err-show_best-clause-fault c).In_ok-stated in
    passed_on c.from_residual-in_err-show_best.result c.in_err-show_best.field-0.0
    (IsFault (shown_of c.args.scan.now) c.args.settings mesh (claim_of c.args.cert.now)) c.from_residual-in_err-show_best.ensures.1
    (stop_weaker c.in_err-show_best.field-0.0 _ (IsFault (shown_of c.args.scan.now) c.args.settings mesh (claim_of c.args.cert.now))
    (λ reason tells. reason_fault (shown_of c.args.scan.now) c.args.settings is.complex mesh (claim_of c.args.cert.now)
    c.requires.stated is.complex_is reason
    (tells (shown_of c.args.scan.now) (scene_of_scan (shown_of c.args.scan.now) c.args.settings) is.complex mesh is.over is.there))
    c.in_err-show_best.ensures.fault)

pub overflow_cast-cost : goal.overflow_cast-cost
overflow_cast-cost c =
    let told = told_at c in
    let few =
    cost_fits (shown_of c.args.scan.now) c.args.settings told.0 (claim_of c.args.cert.now) c.value-cost.result (scan_is_shown c.args.scan.now)
    told.1 told.2 told.3 in
    omega (arith, few)

pub returns-then-cert-cost-clause-fault : goal.returns-then-cert-cost-clause-fault
returns-then-cert-cost-clause-fault c = λ mesh.
    let told = told_at (goal.at.returns-then-cert-cost-clause-fault c).After-value-cost in
    record {
      counts = c.requires.stated;
      complex = told.0;
      complex_is = told.1;
      reason_is = (told.2, refl, told.3, c.if-cert-cost.true);
    }

pub returns-clause-best : goal.returns-clause-best
returns-clause-best c =
    let told = told_at (goal.at.returns-clause-best c).After-value-cost in
    record {
      complex = told.0;
      complex_is = told.1;
      best = told.2;
      cost_is = c.if-cert-cost.false ∙ told.3;
      says = c.in_ok-stated.ensures.stated.labels_say.there;
    }
