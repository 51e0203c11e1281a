-- That `sweep` has one answer, and that its meshes and costs are those of `build`.
--
-- A file is one scan, weights are one settings, and a scan has one best surface at its settings, which is that of a fresh build. Forms
-- that have received all of one mesh have received the same.
use Rattle.std.proofs.Common.{◌≡◌, ℕ, ◌-◌, List, length, get_or, Some, Ok, sym, ap, subst, ◌∙◌, arith}
use Rattle.std.specs.List.{zip}
use Rattle.std.proofs.lemmas.List.{same_lists}
use Rattle.flow_net.specs.declared.votes.Settings.{Settings}
use Rattle.host.specs.State.{Files}
use Rattle.mesh_form.specs.Received.{Received, HasAll}
use Rattle.mesh.specs.Meshes.{Surface}
use Rattle.scan_rows.specs.Shown.{Shown}
use Rattle.solution.specs.Scans.{points_of}
use Rattle.sweep.proofs.FreshBuilds.{fresh_build_law, one_cost, one_surface}
use Rattle.sweep.specs.Entries.{AreWeights, CostsAt, CostsLeast, Given, HasEntry, HaveEntries, IsSurfaceAt, IsSurfaceOf, given_by}
use Rattle.sweep.specs.Entries.{given_scene, smoothing_of}
use Rattle.command_run.specs.Answers.{Answer, file_limit}
use Rattle.command_run.specs.declared.status.Status.TheVariants.{Done}
use Rattle.recon_cmd.specs.Answers.{scan_within}
use Rattle.recon_cmd.specs.Build.{WritesSurface}
use Rattle.recon_cmd.specs.Laws.{texts_by}
use Rattle.recon_cmd.specs.SweepLaws.{AreBuilt, Builds, EntriesAreBuilt, HasBuiltCost, HasBuiltMesh, SweepAnswerIsOne, entry_options}
use Rattle.recon_cmd.specs.Sweep.{SweepAsked, WritesSweep, sweep_line}
use Rattle.recon_cmd.specs.Words.{SurfaceNames}
use Rattle.recon_cmd.proofs.Completeness.{scan_opened}
use Rattle.recon_cmd.proofs.FileAnswers.{file_cases, file_one}
use Rattle.recon_cmd.proofs.OneAnswer.{same_settings}
use Rattle.recon_cmd.proofs.OneMeshAnswer.{all_of, has_all}

-- ---- one surface and one cost at weights
weighed : (a b : Settings) (vote smooth : ℕ) → AreWeights a vote smooth → AreWeights b vote smooth → b ≡ a
weighed a b vote smooth h k = same_settings b a (k.vote_is ∙ sym h.vote_is) (k.smooth_is ∙ sym h.smooth_is)

surface_one : (g : Given) (vote smooth : ℕ) (mesh other : Surface) → IsSurfaceAt g vote smooth mesh
    → IsSurfaceAt g vote smooth other → mesh ≡ other
surface_one g vote smooth mesh other a b =
    one_surface (given_scene g a.settings) g.points mesh other a.surface
    (subst (λ (s : Settings). IsSurfaceOf (given_scene g s) g.points other)
    (weighed a.settings b.settings vote smooth a.weights b.weights) b.surface)

cost_one : (g : Given) (vote smooth n m : ℕ) → CostsAt g vote smooth n → CostsAt g vote smooth m → n ≡ m
cost_one g vote smooth n m a b =
    one_cost (given_scene g a.settings) n m a.cost_is
    (subst (λ (s : Settings). CostsLeast (given_scene g s) m)
    (weighed a.settings b.settings vote smooth a.weights b.weights) b.cost_is)

entry_one : (g : Given) (vote smooth : ℕ) (r s : Received) → HasEntry g vote smooth r → HasEntry g vote smooth s → r ≡ s
entry_one g vote smooth r s a b =
    has_all a.mesh r a.all
    ∙ (ap all_of (surface_one g vote smooth a.mesh b.mesh a.surface b.surface) ∙ sym (has_all b.mesh s b.all))

entries_one : (g : Given) (vote from step : ℕ) (forms others : List Received) → length forms ≡ length others
    → HaveEntries g vote from step forms → HaveEntries g vote from step others → forms ≡ others
entries_one g vote from step forms others size a b =
    same_lists forms others size
    (λ k d l. entry_one g vote (smoothing_of from step k) _ _ (a k d l) (b k d (omega (arith, size))))

-- ---- one answer
written_one : (asked : SweepAsked) (makes : List (Received → List ℕ)) (forms others : List Received) (scan : Shown)
    (answer other : Answer) → length forms ≡ length others → WritesSweep asked forms (texts_by makes forms) scan answer
    → WritesSweep asked others (texts_by makes others) scan other → answer ≡ other
written_one asked makes forms others scan answer other size a b =
    let g : Given = given_by scan in
    let same : forms ≡ others =
    entries_one g asked.options.vote asked.options.smooth asked.step forms others size a.entries.each b.entries.each in
    let first : a.first ≡ b.first =
    cost_one g asked.options.vote asked.options.smooth a.first b.first a.entries.first_is b.entries.first_is in
    let last : a.last ≡ b.last =
    cost_one g asked.options.vote (smoothing_of asked.options.smooth asked.step (length asked.outputs - 1)) a.last b.last
    a.entries.last_is b.entries.last_is in
    a.is ∙ (ap (λ (rs : List Received). done rs a.first a.last) same
    ∙ (ap (λ (n : ℕ). done others n a.last) first ∙ (ap (λ (n : ℕ). done others b.first n) last ∙ sym b.is)))
  where
    done : List Received → (first last : ℕ) → Answer
    done rs first last = record {
      status = Done;
      reads = 1;
      writes = zip asked.outputs (texts_by makes rs);
      line = sweep_line (length asked.outputs) first last;
    }

pub sweep_answer_is_one : SweepAnswerIsOne
sweep_answer_is_one = λ asked makes forms others files answer other size.
    file_one 1 asked.input (scan_within file_limit asked.options) (λ _. WritesSweep asked forms (texts_by makes forms))
    (λ _. WritesSweep asked others (texts_by makes others)) (λ x y. x ≡ y) files answer other (λ e. e)
    (λ bytes scan. written_one asked makes forms others scan answer other size)

-- ---- what `build` writes
module _ (asked : SweepAsked) (names : SurfaceNames) (scan : Shown) (bytes : List ℕ) (built : Answer) (k : ℕ)
    (writes : WritesSurface names (entry_options asked k) bytes scan built) where
  abbrev weight : ℕ
  weight = smoothing_of asked.options.smooth asked.step k

  weights : AreWeights writes.settings asked.options.vote weight
  weights = record { vote_is = writes.vote; smooth_is = writes.smooth }

  mesh_is : (other : Surface) → IsSurfaceAt (given_by scan) asked.options.vote weight other → other ≡ writes.mesh
  mesh_is other at =
      let same : at.settings ≡ writes.settings =
      weighed writes.settings at.settings asked.options.vote weight weights at.weights in
      (fresh_build_law scan writes.settings writes.mesh writes.claim writes.solution).mesh_is other
      (subst (λ (s : Settings). IsSurfaceOf (given_scene (given_by scan) s) (points_of scan) other) same at.surface)

  cost_is : (n : ℕ) → CostsAt (given_by scan) asked.options.vote weight n → n ≡ writes.claim.counts.cost
  cost_is n at =
      let same : at.settings ≡ writes.settings =
      weighed writes.settings at.settings asked.options.vote weight weights at.weights in
      (fresh_build_law scan writes.settings writes.mesh writes.claim writes.solution).cost_is n
      (subst (λ (s : Settings). CostsLeast (given_scene (given_by scan) s) n) same at.cost_is)

  built_mesh : (r : Received) → HasEntry (given_by scan) asked.options.vote weight r → HasBuiltMesh names built r
  built_mesh r entry =
      record {
        mesh = writes.mesh;
        claim = writes.claim;
        shown = writes.is;
        all =
            subst (λ (m : Surface). HasAll r m.points m.faces) (mesh_is entry.mesh entry.surface) entry.all;
      }

  built_cost : (n : ℕ) → CostsAt (given_by scan) asked.options.vote weight n → HasBuiltCost names built n
  built_cost n at = record { mesh = writes.mesh; claim = writes.claim; shown = writes.is; cost_is = cost_is n at }

-- to the scan of these bytes `build` writes
writes_of : (asked : SweepAsked) (k : ℕ) (names : SurfaceNames) (files : Files) (built : Answer) (bytes : List ℕ)
    (scan : Shown) → files asked.input ≡ Some bytes → scan_within file_limit asked.options bytes ≡ Ok scan
    → Builds asked k names files built → WritesSurface names (entry_options asked k) bytes scan built
writes_of asked k names files built bytes scan has so builds = grind (arith, scan_opened)

pub entries_are_built : EntriesAreBuilt
entries_are_built = λ asked forms texts files answer answers done.
    file_cases 1 asked.input (scan_within file_limit asked.options) (λ _. WritesSweep asked forms texts) files answer
    (AreBuilt asked forms files answer)
    (λ bytes line has so is. absurd (cc (done, ap (λ (a : Answer). a.status) is)))
    (by_answer asked forms texts files answer) answers
  where
    by_answer : (asked : SweepAsked) (forms : List Received) (texts : List (List ℕ)) (files : Files) (answer : Answer)
        (bytes : List ℕ) (scan : Shown) → files asked.input ≡ Some bytes → scan_within file_limit asked.options bytes ≡ Ok scan
        → WritesSweep asked forms texts scan answer → AreBuilt asked forms files answer
    by_answer asked forms texts files answer bytes scan has so a =
        record {
          each =
              λ k d names built l builds. built_mesh asked names scan bytes built k
              (writes_of asked k names files built bytes scan has so builds) (get_or forms k d) (a.entries.each k d l);
          first = a.first;
          last = a.last;
          line_is = ap (λ (x : Answer). x.line) a.is;
          first_is =
              λ names built builds. built_cost asked names scan bytes built 0
              (writes_of asked 0 names files built bytes scan has so builds) a.first (at_first asked scan a.first a.entries.first_is);
          last_is =
              λ names built builds. built_cost asked names scan bytes built (length asked.outputs - 1)
              (writes_of asked (length asked.outputs - 1) names files built bytes scan has so builds) a.last a.entries.last_is;
        }
      where
        at_first : (asked : SweepAsked) (scan : Shown) (n : ℕ)
            → CostsAt (given_by scan) asked.options.vote asked.options.smooth n
            → CostsAt (given_by scan) asked.options.vote (smoothing_of asked.options.smooth asked.step 0) n
        at_first asked scan n at =
            let same : asked.options.smooth ≡ smoothing_of asked.options.smooth asked.step 0 = omega arith in
            subst (λ (l : ℕ). CostsAt (given_by scan) asked.options.vote l n) same at
