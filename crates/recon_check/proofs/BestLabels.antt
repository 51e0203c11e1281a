-- The labels that a certificate shows best, by the numbers of cells.
--
-- The network borrows the store and the lists of counts that it is made from, so what it has is equal to these (IsMadeOf), and what is
-- stated about the one by number is stated about the other. Counts of a scene are those of all its cells, so the scene has a complex, and
-- over it the certificate states what it states by number, each row about something there (checked). The cost of the best labels is that
-- of labels that cost least, which the number of sights bounds (cost_fits).
use Rattle.std.proofs.Common.{ℕ, ◌≡◌, ◌<◌, ◌^◌, sym, subst, ◌∙◌, arith, Bool, List}
use Rattle.cell_net.specs.declared.network.CellNetwork.{CellNetwork}
use Rattle.certificate.specs.Certificates.{Claim, IsWellFormed}
use Rattle.flow_net.specs.Nets.{flag_at}
use Rattle.flow_net.specs.declared.Labels.{Labels}
use Rattle.flow_net.specs.declared.votes.Settings.{Settings}
use Rattle.scan_rows.specs.Shown.{Shown, IsShown}
use Rattle.solution.specs.Scans.{scene_of_scan}
use Rattle.solution.proofs.LeastCosts.{least_cost_law}
use Rattle.surface.specs.Labelled.{AreLabelsOver}
use Rattle.tetra_store.specs.Store.{Store}
use Rattle.visibility.specs.Complexes.{Complex}
use Rattle.visibility.specs.Cuts.{cost}
use Rattle.visibility.specs.Listings.{IsListingOf}
use Rattle.visibility.specs.Scenes.{Scene}
use Rattle.visibility.specs.Votes.{IsComplexOf}
use Rattle.cell_net.specs.ByNumber.{SaysOfCells}
use Rattle.cell_net.specs.Counts.{AreCellsOf, AreCountsOf}
use Rattle.cell_net.specs.StoredComplexes.{stored_complex}
use Rattle.solution.proofs.CountLists.{counts_are}
use Rattle.recon_check.specs.Claims.{is_inside, AreThere}
use Rattle.recon_check.specs.Faults.{IsBest}
use Rattle.recon_check.specs.Over.{IsStatedOver}
use Rattle.recon_check.specs.Stated.{IsFlaggedFor, IsStatedBy}
use Rattle.recon_check.specs.Surfaces.{AreShownLabels}
use Rattle.recon_check.specs.declared.stated.Stated.{Stated}
use Rattle.recon_check.proofs.StatedRows.{listing}

-- what the network has is what it was made from
pub record IsMadeOf (net : CellNetwork) (store : Store) (crossed behind : List ℕ) (fixed : List Bool) (settings : Settings) : Type 0 where
  pub tetra : net.tetra.now ≡ store
  pub crossed_is : net.counts.crossed.now ≡ crossed
  pub behind_is : net.counts.behind.now ≡ behind
  pub fixed_is : net.counts.fixed.now ≡ fixed
  pub settings_is : net.settings ≡ settings

-- the flags are of counts of the scene, whatever their list is called
pub flagged : (s : Scene) (store : Store) (crossed behind : List ℕ) {fixed flags : List Bool}
    → AreCountsOf s store.slots crossed behind fixed → flags ≡ fixed → IsFlaggedFor s store.slots flags
flagged s store crossed behind counts same = record {
  crossed = crossed;
  behind = behind;
  counts = subst (λ (given : List Bool). AreCountsOf s store.slots crossed behind given) (sym same) counts;
}

-- there is a complex of the scene over which this is stated
pub record IsChecked (s : Scene) (net : CellNetwork) (claim : Claim) (stated : Stated) : Type 0 where
  pub complex : Complex
  pub complex_is : IsComplexOf s complex
  pub over : IsStatedOver s complex net claim stated
  pub there : AreThere complex claim

module _ (s : Scene) (net : CellNetwork) (store : Store) (crossed behind : List ℕ) (fixed : List Bool) (settings : Settings)
    (counts : AreCountsOf s store.slots crossed behind fixed) (made : IsMadeOf net store crossed behind fixed settings)
    (same : s.settings ≡ settings) where
  -- what is stated is stated over it
  pub checked : (claim : Claim) (stated : Stated) (flags : List Bool) → IsWellFormed claim → flags ≡ fixed
      → IsStatedBy store.slots flags claim stated
      → ((complex : Complex) → IsFlaggedFor s store.slots flags → IsComplexOf s complex → AreThere complex claim)
      → IsChecked s net claim stated
  checked claim stated flags formed flags_are stating there = record {
    complex = all.complex;
    complex_is = all.complex_is;
    over = record {
      counts =
          counts_are s store net.tetra.now crossed behind net.counts.crossed.now net.counts.behind.now fixed net.counts.fixed.now
          counts made.tetra made.crossed_is made.behind_is made.fixed_is;
      settings = same ∙ sym made.settings_is;
      complex_is = all.complex_is;
      formed = formed;
      stated_is =
          subst (λ (t : Store). IsStatedBy t.slots net.counts.fixed.now claim stated) (sym made.tetra)
          (subst (λ (given : List Bool). IsStatedBy store.slots given claim stated) (flags_are ∙ sym made.fixed_is) stating);
    };
    there = there all.complex given all.complex_is;
  }
    where
      given : IsFlaggedFor s store.slots flags
      given = flagged s store crossed behind counts flags_are

      all : IsListingOf s (stored_complex flags store.slots)
      all = listing s store.slots flags given

-- the labels are those of the scene's cells, whatever their list is called
pub labels_over : (scan : Shown) (settings : Settings) (store : Store) (claim : Claim) (labels : Labels) (given : List Bool)
    → AreCellsOf (scene_of_scan scan settings) store.slots → (best : AreShownLabels scan settings store.slots claim labels)
    → given ≡ labels.inside
    → AreLabelsOver (scene_of_scan scan settings) best.complex store.slots (flag_at given) (is_inside claim)
labels_over scan settings store claim labels given cells best same = record {
  cells = cells;
  complex_is = best.complex_is;
  says = subst (λ (flags : List Bool). SaysOfCells store.slots (flag_at flags) (is_inside claim)) (sym same) best.says;
  admissible = best.best.certified.admissible;
}

-- what they cost is small
pub cost_fits : (scan : Shown) (settings : Settings) (complex : Complex) (claim : Claim) (amount : ℕ) → IsShown scan
    → IsComplexOf (scene_of_scan scan settings) complex → IsBest (scene_of_scan scan settings) complex claim
    → amount ≡ cost (scene_of_scan scan settings) complex (is_inside claim) → amount < 2 ^ 47
cost_fits scan settings complex claim amount shown is best same =
    let few = least_cost_law scan settings complex (is_inside claim) shown is best.least.least_cost in
    omega (arith, few, same)
