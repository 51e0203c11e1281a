-- Forms that the surfaces of a sweep are handed to, one after another.
--
-- The first k forms have received the meshes of their entries, and the others are fresh (`AreHanded`). One form more makes it hold
-- of k + 1 (`one_handed`); where there is no memory for a form, it has a front of its mesh (`one_front`).
use Rattle.std.proofs.Common.{ℕ, ◌≡◌, ◌<◌, ◌≤◌, ◌+◌, ◌-◌, ◌⊎◌, inl, inr, refl, ap, sym, subst, arith, List, length, set}
use Rattle.std.proofs.Common.{get_or, map, All}
use Rattle.std.proofs.lemmas.List.{get_or-set_same, get_or-set_other, get_or-map, map-set, length-set, length-map}
use Rattle.std.proofs.lemmas.Bool.{cases_eq, cases_lt}
use Rattle.flow_net.specs.declared.votes.Settings.{Settings}
use Rattle.mesh_form.specs.Received.{Received, IsFresh, HasAll, HasPrefix}
use Rattle.mesh.specs.Meshes.{Surface}
use Rattle.mesh.specs.declared.mesh.Mesh.{Mesh}
use Rattle.scan_rows.specs.Shown.{Shown}
use Rattle.solution.specs.Solutions.{surface_of}
use Rattle.sweep.specs.Entries.{CostsAt, CostsLeast, Given, HasEntry, HasEntryFront, HaveEntries, HaveEntryFronts}
use Rattle.sweep.specs.Entries.{IsSurfaceAt, IsSurfaceOf, given_by, smoothing_of}
use Rattle.sweep.specs.Swept.{IsOf, Swept, given_in, scene_in}

-- ---- what a sweep is of
-- a sweep of a scan has what the scan gives
pub given_of : (w : Swept) (scan : Shown) → IsOf w scan → given_in w ≡ given_by scan
given_of w scan of = cc (of.points, of.scanners, of.sights)

-- its surface is that at its weights
pub surface_at : (w : Swept) (mesh : Surface) → IsSurfaceOf (scene_in w) w.points mesh
    → IsSurfaceAt (given_in w) w.settings.vote w.settings.smooth mesh
surface_at w mesh surface =
    record { settings = w.settings; weights = record { vote_is = refl; smooth_is = refl }; surface = surface }

-- and so is its cost
pub costs_at : (w : Swept) (n : ℕ) → CostsLeast (scene_in w) n → CostsAt (given_in w) w.settings.vote w.settings.smooth n
costs_at w n cost = record { settings = w.settings; weights = record { vote_is = refl; smooth_is = refl }; cost_is = cost }

-- of a sweep at the scan's settings, and of one that was raised from there
pub at_scan : (P : Given → ℕ → ℕ → Type 0) (w : Swept) (scan : Shown) (settings : Settings) → IsOf w scan
    → w.settings ≡ settings → P (given_in w) w.settings.vote w.settings.smooth
    → P (given_by scan) settings.vote settings.smooth
at_scan P w scan settings of is h =
    subst (λ (s : Settings). P (given_by scan) s.vote s.smooth) is
    (subst (λ (g : Given). P g w.settings.vote w.settings.smooth) (given_of w scan of) h)

pub last_at : (w later : Swept) (scan : Shown) (settings : Settings) (step k n : ℕ) → IsOf w scan → w.settings ≡ settings
    → given_in later ≡ given_in w → later.settings.vote ≡ w.settings.vote
    → later.settings.smooth ≡ smoothing_of w.settings.smooth step k → CostsLeast (scene_in later) n
    → CostsAt (given_by scan) settings.vote (smoothing_of settings.smooth step k) n
last_at w later scan settings step k n of is given vote smooth cost =
    at_scan (λ (g : Given) (v l : ℕ). CostsAt g v (smoothing_of l step k) n) w scan settings of is
    (subst (λ (l : ℕ). CostsAt (given_in w) w.settings.vote l n) smooth
    (subst (λ (v : ℕ). CostsAt (given_in w) v later.settings.smooth n) vote
    (subst (λ (g : Given). CostsAt g later.settings.vote later.settings.smooth n) given (costs_at later n cost))))

-- what a form was handed of it
pub entry_of : (w : Swept) (mesh : Mesh) (r : Received) → IsSurfaceOf (scene_in w) w.points (surface_of mesh)
    → HasAll r mesh.points.items mesh.faces.items → HasEntry (given_in w) w.settings.vote w.settings.smooth r
entry_of w mesh r surface all =
    record { mesh = surface_of mesh; surface = surface_at w (surface_of mesh) surface; all = all }

pub front_of : (w : Swept) (mesh : Mesh) (r : Received) → IsSurfaceOf (scene_in w) w.points (surface_of mesh)
    → HasPrefix r mesh.points.items mesh.faces.items → HasEntryFront (given_in w) w.settings.vote w.settings.smooth r
front_of w mesh r surface front = inr (surface_of mesh, surface_at w (surface_of mesh) surface, inl front)

-- ---- the weights of entries
-- behind one entry more
pub one_back : (from step k : ℕ) → smoothing_of from step (k + 1 - 1) ≡ smoothing_of from step k
one_back from step k =
    let same : k + 1 - 1 ≡ k = omega arith in
    ap (smoothing_of from step) same

-- ---- forms one after another
-- the first k forms have received the meshes of their entries, and the others are fresh
pub record AreHanded (g : Given) (vote from step k : ℕ) (forms : List Received) : Type 0 where
  pub done : (j : ℕ) (d : Received) → j < k → j < length forms
      → HasEntry g vote (smoothing_of from step j) (get_or forms j d)
  pub rest : (j : ℕ) (d : Received) → k ≤ j → j < length forms → IsFresh (get_or forms j d)

pub none_handed : (g : Given) (vote from step : ℕ) (forms : List Received) → All IsFresh forms
    → AreHanded g vote from step 0 forms
none_handed g vote from step forms fresh =
    record { done = λ j d l m. absurd (omega arith); rest = λ j d l m. fresh j d m }

-- the form at k is another
at_place : (P : Received → Type 0) (k j : ℕ) (forms : List Received) (r d : Received) → j < length forms → (j ≡ k → P r)
    → (¬ (j ≡ k) → P (get_or forms j d)) → P (get_or (set forms k r) j d)
at_place P k j forms r d within here other = by (cases_eq j k)
  where
    by : (j ≡ k) ⊎ (¬ (j ≡ k)) → P (get_or (set forms k r) j d)
    by (inl e) =
        subst (λ (i : ℕ). P (get_or (set forms i r) j d)) e (subst P (sym (get_or-set_same forms j r d within)) (here e))
    by (inr n) = subst P (sym (get_or-set_other forms k j r d n)) (other n)

one_handed : (g : Given) (vote from step k : ℕ) (forms : List Received) (r : Received)
    → AreHanded g vote from step k forms → HasEntry g vote (smoothing_of from step k) r
    → AreHanded g vote from step (k + 1) (set forms k r)
one_handed g vote from step k forms r handed entry =
    record {
      done =
          λ j d l m. at_place (HasEntry g vote (smoothing_of from step j)) k j forms r d
          (omega (arith, length-set forms k r))
          (λ e. subst (λ (i : ℕ). HasEntry g vote (smoothing_of from step i) r) (sym e) entry)
          (λ n. handed.done j d (omega arith) (omega (arith, length-set forms k r)));
      rest =
          λ j d l m. at_place IsFresh k j forms r d (omega (arith, length-set forms k r)) (λ e. absurd (omega arith))
          (λ n. handed.rest j d (omega arith) (omega (arith, length-set forms k r)));
    }

-- all that were handed, and those that are fresh
fronts_of : (g : Given) (vote from step k : ℕ) (forms : List Received) → AreHanded g vote from step k forms
    → HaveEntryFronts g vote from step forms
fronts_of g vote from step k forms handed j d m = by (cases_lt j k)
  where
    by : (j < k) ⊎ (k ≤ j) → HasEntryFront g vote (smoothing_of from step j) (get_or forms j d)
    by (inl l) = let entry = handed.done j d l m in inr (entry.mesh, entry.surface, inr entry.all)
    by (inr l) = inl (handed.rest j d l m)

one_front : (g : Given) (vote from step k : ℕ) (forms : List Received) (r : Received)
    → AreHanded g vote from step k forms → HasEntryFront g vote (smoothing_of from step k) r
    → HaveEntryFronts g vote from step (set forms k r)
one_front g vote from step k forms r handed front = λ j d m.
    at_place (HasEntryFront g vote (smoothing_of from step j)) k j forms r d (omega (arith, length-set forms k r))
    (λ e. subst (λ (i : ℕ). HasEntryFront g vote (smoothing_of from step i) r) (sym e) front)
    (λ n. fronts_of g vote from step k forms handed j d (omega (arith, length-set forms k r)))

-- fresh forms were handed nothing
pub fronts_of_fresh : (g : Given) (vote from step : ℕ) (forms : List Received) → All IsFresh forms
    → HaveEntryFronts g vote from step forms
fronts_of_fresh g vote from step forms fresh = λ k d l. inl (fresh k d l)

-- the same of the forms of a sweep of a scan
pub entries_at : (w : Swept) (scan : Shown) (settings : Settings) (step : ℕ) (forms : List Received) → IsOf w scan
    → w.settings ≡ settings → HaveEntries (given_in w) w.settings.vote w.settings.smooth step forms
    → HaveEntries (given_by scan) settings.vote settings.smooth step forms
entries_at w scan settings step forms =
    at_scan (λ (g : Given) (v l : ℕ). HaveEntries g v l step forms) w scan settings

pub fronts_at : (w : Swept) (scan : Shown) (settings : Settings) (step : ℕ) (forms : List Received) → IsOf w scan
    → w.settings ≡ settings → HaveEntryFronts (given_in w) w.settings.vote w.settings.smooth step forms
    → HaveEntryFronts (given_by scan) settings.vote settings.smooth step forms
fronts_at w scan settings step forms =
    at_scan (λ (g : Given) (v l : ℕ). HaveEntryFronts g v l step forms) w scan settings

-- what was handed whole was handed in part
pub fronts_of_entries : (g : Given) (vote from step : ℕ) (forms : List Received) → HaveEntries g vote from step forms
    → HaveEntryFronts g vote from step forms
fronts_of_entries g vote from step forms each =
    λ k d l. (let entry = each k d l in inr (entry.mesh, entry.surface, inr entry.all))

-- ---- the same of boxes, by what the form in each has received
pub box_fresh : {B : Type 0} (received : B → Received) (g : Given) (vote from step k : ℕ) (boxes : List B) (d : B)
    → AreHanded g vote from step k (map received boxes) → k < length boxes → IsFresh (received (get_or boxes k d))
box_fresh received g vote from step k boxes d handed l =
    subst IsFresh (get_or-map received boxes k d (received d) l)
    (handed.rest k (received d) (omega arith) (omega (arith, length-map boxes received)))

pub box_handed : {B : Type 0} (received : B → Received) (g h : Given) (vote v from step k smooth : ℕ) (boxes : List B) (box : B)
    → h ≡ g → v ≡ vote → smooth ≡ smoothing_of from step k
    → AreHanded g vote from step k (map received boxes) → HasEntry h v smooth (received box)
    → AreHanded g vote from step (k + 1) (map received (set boxes k box))
box_handed received g h vote v from step k smooth boxes box same votes at handed entry =
    subst (AreHanded g vote from step (k + 1)) (sym (map-set received boxes k box))
    (one_handed g vote from step k (map received boxes) (received box) handed
    (subst (λ (n : ℕ). HasEntry g vote n (received box)) at
    (subst (λ (n : ℕ). HasEntry g n smooth (received box)) votes
    (subst (λ (i : Given). HasEntry i v smooth (received box)) same entry))))

pub boxes_stopped : {B : Type 0} (received : B → Received) (g h : Given) (vote v from step k smooth : ℕ) (boxes : List B)
    (box : B) → h ≡ g → v ≡ vote → smooth ≡ smoothing_of from step k
    → AreHanded g vote from step k (map received boxes) → HasEntryFront h v smooth (received box)
    → HaveEntryFronts g vote from step (map received (set boxes k box))
boxes_stopped received g h vote v from step k smooth boxes box same votes at handed front =
    subst (HaveEntryFronts g vote from step) (sym (map-set received boxes k box))
    (one_front g vote from step k (map received boxes) (received box) handed
    (subst (λ (n : ℕ). HasEntryFront g vote n (received box)) at
    (subst (λ (n : ℕ). HasEntryFront g n smooth (received box)) votes
    (subst (λ (i : Given). HasEntryFront i v smooth (received box)) same front))))

-- no form more was handed anything
pub boxes_left : {B : Type 0} (received : B → Received) (g : Given) (vote from step k : ℕ) (boxes : List B)
    → AreHanded g vote from step k (map received boxes) → HaveEntryFronts g vote from step (map received boxes)
boxes_left received g vote from step k boxes handed = fronts_of g vote from step k (map received boxes) handed
