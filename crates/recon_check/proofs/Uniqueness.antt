-- A mesh and a certificate have one answer.
--
-- The reasons about cells, facets, flow, cost and mesh have a level, the place of their kind in the order of telling.
-- `Passes` says what holds where there is no fault of a kind. A reason excludes that of its own kind (fails), and brings it
-- for each kind of a lower level (passes_before, up the `by_` lemmas, each of which knows one kind more). So two reasons are
-- of one level, and as each is the first of its list they are equal (same_kind, one_reason).
--
-- Around this: the counts are compared first, in one order (one_count), and a scan has one complex (one_fault); a solution
-- passes at every level (none_here), so Yes excludes each reason (shown_no_fault); a fault of the stamp comes before all
-- (one_holds); and a text that is refused is that of no certificate, while one that is not states one claim (one_claim,
-- one_answer).
use Rattle.std.proofs.Common.{ℕ, ◌≡◌, ◌<◌, ◌≤◌, ◌⊎◌, inl, inr, ⊎_elim, refl, ap, sym, subst, ◌∙◌, arith, Bool, true, false}
use Rattle.std.proofs.Common.{cond, List, [], ◌++◌, length, slice_get, All, Contains}
use Rattle.std.specs.Bool.{⊤}
use Rattle.std.proofs.lemmas.Bool.{cases_lt, false≢true}
use Rattle.std.proofs.lemmas.List.Elements.{All-contains}
use Rattle.flow_net.specs.Faults.{IsFixedInside, IsOverCapacity, sink_limit, IsOverSink, total_out, IsUnbalanced, IsNotLeast}
use Rattle.flow_net.specs.Networks.{Network, amount_in as entering_of}
use Rattle.certificate.specs.Stamps.{StampView}
use Rattle.certificate.specs.Certificates.{Claim, IsWellFormed}
use Rattle.cert_text.specs.Refusals.{IsRefusedCertificate}
use Rattle.cert_text.specs.Texts.{cert_text}
use Rattle.cert_text.specs.declared.refusal.CertRefusal.{CertRefusal}
use Rattle.cert_text.specs.declared.refusal.CertRefusal.TheVariants as refusals
use Rattle.cert_text.proofs.CertCodes.{cert_code}
use Rattle.cert_text.proofs.OneRefusal.{refused_once, printed_not_refused}
use Rattle.flow_net.specs.Firsts.{IsFirst}
use Rattle.flow_net.specs.declared.votes.Settings.{Settings}
use Rattle.mesh.specs.Meshes.{Surface}
use Rattle.solution.specs.Scans.{scene_of_scan}
use Rattle.solution.specs.Solutions.{flow_on, sink_at, HasCounts}
use Rattle.solution.proofs.Uniqueness.{solution_law}
use Rattle.scan_rows.specs.Shown.{Shown}
use Rattle.visibility.specs.Scenes.{Scene}
use Rattle.geo_sign.specs.Tetrahedron.{facet_at}
use Rattle.geo_sign.proofs.Members.{here, there}
use Rattle.visibility.specs.Complexes.{Complex}
use Rattle.visibility.specs.Votes.{is_fixed, capacity, sink}
use Rattle.visibility.specs.Cuts.{network_over, cost, IsAdmissible, IsLeastInside}
use Rattle.visibility.specs.Flows.{value, IsValidFlow}
use Rattle.visibility.proofs.Ordered.{one_complex}
use Rattle.recon_check.specs.Answers.{best_surface, surface_text, IsSolved, stated_count, count_here, earlier, IsOtherCount}
use Rattle.recon_check.specs.Answers.{IsReason, IsFault, IsFaultHere, HasCertificate, IsSolvedWith, IsAnswer}
use Rattle.recon_check.specs.Stamps.{IsStampedFor}
use Rattle.recon_check.proofs.OneStamp.{not_other, one_stamp}
use Rattle.recon_check.specs.Claims.{is_inside, flow_facets, sink_cells, IsStray, AreThere, NoneOf}
use Rattle.recon_check.specs.Differences.{IsFirstDifference}
use Rattle.recon_check.specs.Faults.{IsWithinFacets, IsWithinLimits, IsCertified, IsBest}
use Rattle.recon_check.specs.Laws.{OneAnswer}
use Rattle.recon_check.specs.declared.answer.Answer.{Answer}
use Rattle.recon_check.specs.declared.answer.Answer.TheVariants.{Yes, No}
use Rattle.recon_check.specs.declared.answer.Reason.{Reason}
use Rattle.recon_check.specs.declared.answer.Reason.TheVariants.{CertLine, CertOrder, CertCut}
use Rattle.recon_check.specs.declared.answer.Reason.TheVariants.{OtherCounts, NoSuchCell, NoSuchFacet, NoSuchSink, FixedInside}
use Rattle.recon_check.specs.declared.answer.Reason.TheVariants.{OverCapacity, OverSink, Unbalanced, NotEqual, NotLeast}
use Rattle.recon_check.specs.declared.answer.Reason.TheVariants.{WrongCost, MeshDiffers}
use Rattle.recon_check.specs.declared.answer.Which.{Which}
use Rattle.recon_check.specs.declared.answer.Which.TheVariants.{Points, Scanners, Sights, Vote, Smooth}
use Rattle.recon_check.proofs.CellFaults.{admissible_from}
use Rattle.recon_check.proofs.Firsts.{one_first, one_first_of, not_first_of}
use Rattle.recon_check.proofs.Solutions.{best_from}

-- ---- which fault comes before which
abbrev level : Reason → ℕ
level (NoSuchCell k) = 0
level (NoSuchFacet k) = 1
level (NoSuchSink k) = 2
level (FixedInside cell) = 3
level (OverCapacity facet flow cap) = 4
level (OverSink cell flow cap) = 5
level (Unbalanced cell entering leaving) = 6
level (NotEqual a b) = 7
level (NotLeast cell) = 8
level (WrongCost a b) = 9
level (MeshDiffers place) = 10
level _ = 11

-- a row that is there is not stray
not_stray : (keys rows : List (List ℕ)) (k : ℕ) → All (Contains keys) rows → IsFirst (length rows) (IsStray keys rows) k → ⊥
not_stray keys rows k there h = h.has (there k [] h.in_range)

-- two texts with a first difference are not the same
not_different : (xs ys : List ℕ) (place : ℕ) → xs ≡ ys → IsFirstDifference xs ys place → ⊥
not_different xs ys place same h = h.differs (ap (λ (zs : List ℕ). slice_get zs place) same)

-- and have one
one_difference : (xs ys : List ℕ) (place other : ℕ) → IsFirstDifference xs ys place → IsFirstDifference xs ys other
    → place ≡ other
one_difference xs ys place other a b =
    let not_less : ¬ (place < other) = λ l. a.differs (b.same_before place l) in
    let not_more : ¬ (other < place) = λ l. b.differs (a.same_before other l) in
    omega (arith, not_less, not_more)

module _ (scan : Shown) (s : Scene) (complex : Complex) (claim : Claim) (mesh : List ℕ) where
  abbrev net : Network (List ℕ) (List ℕ)
  net = network_over s complex

  abbrev inside : List ℕ → Bool
  inside = is_inside claim

  -- the text of the mesh that there should be
  abbrev text : List ℕ
  text = surface_text (best_surface scan complex inside)

  abbrev IsHere : Reason → Type 0
  IsHere = IsReason scan s complex claim mesh

  -- what holds where there is no fault of the kind of a reason
  abbrev Passes : Reason → Type 0
  Passes (NoSuchCell k) = All (Contains complex.cells) claim.inside
  Passes (NoSuchFacet k) = All (Contains complex.facets) (flow_facets claim)
  Passes (NoSuchSink k) = All (Contains complex.cells) (sink_cells claim)
  Passes (FixedInside cell) = IsAdmissible s complex inside
  Passes (OverCapacity facet flow cap) = NoneOf complex.facets (IsOverCapacity net (flow_on claim))
  Passes (OverSink cell flow cap) = NoneOf complex.cells (IsOverSink net (sink_at claim))
  Passes (Unbalanced cell entering leaving) = NoneOf complex.cells (IsUnbalanced net (flow_on claim) (sink_at claim))
  Passes (NotEqual a b) = value s complex (sink_at claim) ≡ cost s complex inside
  Passes (NotLeast cell) = IsLeastInside s complex inside
  Passes (WrongCost a b) = claim.counts.cost ≡ cost s complex inside
  Passes (MeshDiffers place) = mesh ≡ text
  Passes _ = ⊤

  -- where there is a fault of a kind, something of that kind does not hold
  fails : (reason : Reason) → IsHere reason → Passes reason → ⊥
  fails (NoSuchCell k) h p = not_stray complex.cells claim.inside k p h
  fails (NoSuchFacet k) h p = not_stray complex.facets (flow_facets claim) k p h.1
  fails (NoSuchSink k) h p = not_stray complex.cells (sink_cells claim) k p h.2
  fails (FixedInside cell) h p =
      not_first_of complex.cells cell (IsFixedInside net inside)
      (λ row there fault. let outside = p.none_fixed row there fault.0 in false≢true (sym outside ∙ fault.1)) h.1
  fails (OverCapacity facet flow cap) h p = not_first_of complex.facets facet (IsOverCapacity net (flow_on claim)) p h.2
  fails (OverSink cell flow cap) h p = not_first_of complex.cells cell (IsOverSink net (sink_at claim)) p h.1
  fails (Unbalanced cell entering leaving) h p =
      not_first_of complex.cells cell (IsUnbalanced net (flow_on claim) (sink_at claim)) p h.1
  fails (NotEqual a b) h p = h.5 (h.3 ∙ p ∙ sym h.4)
  fails (NotLeast cell) h p =
      not_first_of complex.cells cell (IsNotLeast net inside)
      (λ row there fault. let apart = fault inside p in false≢true (sym apart.1 ∙ apart.0)) h.1
  fails (WrongCost a b) h p = h.3 (h.1 ∙ p ∙ sym h.2)
  fails (MeshDiffers place) h p = not_different mesh text place p h.2
  fails _ h p = h

  -- ---- what is known where a later fault is
  none_over_sink : IsValidFlow s complex (flow_on claim) (sink_at claim) → NoneOf complex.cells (IsOverSink net (sink_at claim))
  none_over_sink valid row there over = by (is_fixed s.vertices s.scanners row) refl over
    where
      by : (b : Bool) → is_fixed s.vertices s.scanners row ≡ b → cond b 0 (sink s row) < sink_at claim row → ⊥
      by true fixed over = let none = valid.none_fixed row there fixed in omega arith
      by false free over = let within = valid.within_sink row there in omega arith

  by_first : All (Contains complex.cells) claim.inside → (reason : Reason) → level reason < 1 → Passes reason
  by_first cells (NoSuchCell k) l = cells
  by_first cells _ l = absurd (omega arith)

  by_second : All (Contains complex.cells) claim.inside → All (Contains complex.facets) (flow_facets claim) → (reason : Reason)
      → level reason < 2 → Passes reason
  by_second cells facets (NoSuchFacet k) l = facets
  by_second cells facets reason l = by_first cells reason (omega arith)

  by_there : AreThere complex claim → (reason : Reason) → level reason < 3 → Passes reason
  by_there there (NoSuchSink k) l = there.sink
  by_there there reason l = by_second there.inside there.flow reason (omega arith)

  by_admissible : AreThere complex claim → IsAdmissible s complex inside → (reason : Reason) → level reason < 4 → Passes reason
  by_admissible there admissible (FixedInside cell) l = admissible
  by_admissible there admissible reason l = by_there there reason (omega arith)

  by_facets : IsWithinFacets s complex claim → (reason : Reason) → level reason < 5 → Passes reason
  by_facets h (OverCapacity facet flow cap) l = h.within.within_caps
  by_facets h reason l = by_admissible h.there (admissible_from s complex claim h.within.none_fixed) reason (omega arith)

  by_limits : IsWithinLimits s complex claim → (reason : Reason) → level reason < 6 → Passes reason
  by_limits h (OverSink cell flow cap) l = h.within.within_sinks
  by_limits h reason l = by_facets (record { there = h.there; within = h.within.within_arcs }) reason (omega arith)

  by_valid : AreThere complex claim → IsAdmissible s complex inside → IsValidFlow s complex (flow_on claim) (sink_at claim)
      → (reason : Reason) → level reason < 7 → Passes reason
  by_valid there admissible valid (OverCapacity facet flow cap) l = λ f has over. let within = valid.within_cap f has in omega arith
  by_valid there admissible valid (OverSink cell flow cap) l = none_over_sink valid
  by_valid there admissible valid (Unbalanced cell entering leaving) l = λ row has fault. fault.1 (valid.balanced row has fault.0)
  by_valid there admissible valid reason l = by_admissible there admissible reason (omega arith)

  by_certified : IsCertified s complex claim → (reason : Reason) → level reason < 8 → Passes reason
  by_certified h (NotEqual a b) l = h.equal
  by_certified h reason l = by_valid h.there h.admissible h.valid reason (omega arith)

  by_best : IsBest s complex claim → (reason : Reason) → level reason < 9 → Passes reason
  by_best h (NotLeast cell) l = h.least
  by_best h reason l = by_certified h.certified reason (omega arith)

  by_cost : IsBest s complex claim → claim.counts.cost ≡ cost s complex inside → (reason : Reason) → level reason < 10
      → Passes reason
  by_cost h is (WrongCost a b) l = is
  by_cost h is reason l = by_best h reason (omega arith)

  -- where there is a fault of a kind, there is none of an earlier kind
  passes_before : (reason : Reason) → IsHere reason → (earlier : Reason) → level earlier < level reason → Passes earlier
  passes_before (NoSuchCell k) h earlier l = absurd (omega arith)
  passes_before (NoSuchFacet k) h earlier l = by_first h.0 earlier l
  passes_before (NoSuchSink k) h earlier l = by_second h.0 h.1 earlier l
  passes_before (FixedInside cell) h earlier l = by_there h.0 earlier l
  passes_before (OverCapacity facet flow cap) h earlier l = by_admissible h.0 h.1 earlier l
  passes_before (OverSink cell flow cap) h earlier l = by_facets h.0 earlier l
  passes_before (Unbalanced cell entering leaving) h earlier l = by_limits h.0 earlier l
  passes_before (NotEqual a b) h earlier l = by_valid h.0 h.1 h.2 earlier l
  passes_before (NotLeast cell) h earlier l = by_certified h.0 earlier l
  passes_before (WrongCost a b) h earlier l = by_best h.0 earlier l
  passes_before (MeshDiffers place) h earlier l = by_cost h.0 h.1 earlier l
  passes_before _ h earlier l = absurd h

  -- what a solution passes, there is no fault of
  none_here : IsBest s complex claim → claim.counts.cost ≡ cost s complex inside → mesh ≡ text → (reason : Reason) → ¬ IsHere reason
  none_here best is same reason h =
      ⊎_elim (λ (l : level reason < 10). fails reason h (by_cost best is reason l)) (λ (l : 10 ≤ level reason). last reason l h)
      (cases_lt (level reason) 10)
    where
      last : (other : Reason) → 10 ≤ level other → IsHere other → ⊥
      last (MeshDiffers place) l k = fails (MeshDiffers place) k same
      last _ l k = first_of (omega arith, assumption)

  -- ---- two faults of one kind are the same
  same_kind : (reason other : Reason) → level reason ≡ level other → IsHere reason → IsHere other → reason ≡ other
  same_kind (NoSuchCell i) (NoSuchCell j) e h k =
      ap NoSuchCell (one_first (length claim.inside) i j (IsStray complex.cells claim.inside) h k)
  same_kind (NoSuchFacet i) (NoSuchFacet j) e h k =
      ap NoSuchFacet (one_first (length (flow_facets claim)) i j (IsStray complex.facets (flow_facets claim)) h.1 k.1)
  same_kind (NoSuchSink i) (NoSuchSink j) e h k =
      ap NoSuchSink (one_first (length (sink_cells claim)) i j (IsStray complex.cells (sink_cells claim)) h.2 k.2)
  same_kind (FixedInside a) (FixedInside b) e h k =
      ap FixedInside (one_first_of complex.cells a b (IsFixedInside net inside) h.1 k.1)
  same_kind (OverCapacity a flow cap) (OverCapacity b flow' cap') e h k =
      let same : a ≡ b = one_first_of complex.facets a b (IsOverCapacity net (flow_on claim)) h.2 k.2 in
      let flows : flow ≡ flow' = h.3 ∙ ap (flow_on claim) same ∙ sym k.3 in
      let caps : cap ≡ cap' = h.4 ∙ ap (λ (f : List ℕ). capacity s (facet_at f)) same ∙ sym k.4 in
      cc
  same_kind (OverSink a flow cap) (OverSink b flow' cap') e h k =
      let same : a ≡ b = one_first_of complex.cells a b (IsOverSink net (sink_at claim)) h.1 k.1 in
      let flows : flow ≡ flow' = h.2 ∙ ap (sink_at claim) same ∙ sym k.2 in
      let caps : cap ≡ cap' = h.3 ∙ ap (sink_limit net) same ∙ sym k.3 in
      cc
  same_kind (Unbalanced a entering leaving) (Unbalanced b entering' leaving') e h k =
      let same : a ≡ b = one_first_of complex.cells a b (IsUnbalanced net (flow_on claim) (sink_at claim)) h.1 k.1 in
      let ins : entering ≡ entering' = h.2 ∙ ap (entering_of net (flow_on claim)) same ∙ sym k.2 in
      let outs : leaving ≡ leaving' = h.3 ∙ ap (total_out net (flow_on claim) (sink_at claim)) same ∙ sym k.3 in
      cc
  same_kind (NotEqual a b) (NotEqual a' b') e h k =
      let values : a ≡ a' = h.3 ∙ sym k.3 in
      let costs : b ≡ b' = h.4 ∙ sym k.4 in
      cc
  same_kind (NotLeast a) (NotLeast b) e h k = ap NotLeast (one_first_of complex.cells a b (IsNotLeast net inside) h.1 k.1)
  same_kind (WrongCost a b) (WrongCost a' b') e h k =
      let told : a ≡ a' = h.1 ∙ sym k.1 in
      let costs : b ≡ b' = h.2 ∙ sym k.2 in
      cc
  same_kind (MeshDiffers a) (MeshDiffers b) e h k = ap MeshDiffers (one_difference mesh text a b h.2 k.2)
  same_kind _ _ e h k = absurd (first_of (omega arith, assumption))

  one_reason : (reason other : Reason) → IsHere reason → IsHere other → reason ≡ other
  one_reason reason other h k =
      let not_less : ¬ (level reason < level other) = λ l. fails reason h (passes_before other k reason l) in
      let not_more : ¬ (level other < level reason) = λ l. fails other k (passes_before reason h other l) in
      same_kind reason other (omega (arith, not_less, not_more)) h k

-- ---- the numbers that a certificate states
-- of two of the numbers one is compared before the other, or they are one
compared : (which other : Which) → (which ≡ other) ⊎ (Contains (earlier other) which ⊎ Contains (earlier which) other)
compared Points Points = inl refl
compared Scanners Scanners = inl refl
compared Sights Sights = inl refl
compared Vote Vote = inl refl
compared Smooth Smooth = inl refl
compared _ _ = search (inl, inr, here, there) depth 8

module _ (scan : Shown) (settings : Settings) (claim : Claim) where
  -- the number that differs is not the scan's
  not_same_count : (which : Which) (stated here : ℕ) → IsOtherCount scan settings claim which stated here
      → stated_count which claim ≡ count_here which scan settings → ⊥
  not_same_count which stated here h same = h.differs (h.stated_is ∙ same ∙ sym h.here_is)

  same_count : HasCounts claim scan settings → (which : Which) → stated_count which claim ≡ count_here which scan settings
  same_count has Points = has.points
  same_count has Scanners = has.scanners
  same_count has Sights = has.sights
  same_count has Vote = has.vote
  same_count has Smooth = has.smooth

  -- a number that was compared before is the scan's
  before_differs : (which other : Which) (stated here stated' here' : ℕ) → IsOtherCount scan settings claim which stated here
      → IsOtherCount scan settings claim other stated' here' → Contains (earlier other) which → ⊥
  before_differs which other stated here stated' here' h k before =
      not_same_count which stated here h
      (All-contains (λ w. stated_count w claim ≡ count_here w scan settings) (earlier other) which k.same_before before)

  one_count : (which other : Which) (stated here stated' here' : ℕ) → IsOtherCount scan settings claim which stated here
      → IsOtherCount scan settings claim other stated' here'
      → OtherCounts which stated here ≡ OtherCounts other stated' here'
  one_count which other stated here stated' here' h k =
      ⊎_elim (λ (same : which ≡ other).
      let told : stated ≡ stated' = h.stated_is ∙ ap (λ (w : Which). stated_count w claim) same ∙ sym k.stated_is in
      let own : here ≡ here' = h.here_is ∙ ap (λ (w : Which). count_here w scan settings) same ∙ sym k.here_is in
      cc)
      (λ apart. ⊎_elim
      (λ (before : Contains (earlier other) which). absurd (before_differs which other stated here stated' here' h k before))
      (λ (before : Contains (earlier which) other). absurd (before_differs other which stated' here' stated here k h before))
      apart)
      (compared which other)

  -- ---- one fault of what a certificate states
  module _ (mesh : List ℕ) where
    one_fault : (reason other : Reason) → IsFault scan settings mesh claim reason → IsFault scan settings mesh claim other
        → reason ≡ other
    one_fault (OtherCounts which a b) (OtherCounts other c d) h k = one_count which other a b c d h k
    one_fault (OtherCounts which a b) _ h k = absurd (not_same_count which a b h (same_count k.counts which))
    one_fault _ (OtherCounts which a b) h k = absurd (not_same_count which a b k (same_count h.counts which))
    one_fault reason other h k =
        one_reason scan (scene_of_scan scan settings) h.complex claim mesh reason other h.reason_is
        (subst (λ (complex : Complex). IsReason scan (scene_of_scan scan settings) complex claim mesh other)
        (one_complex (scene_of_scan scan settings) k.complex h.complex k.complex_is h.complex_is) k.reason_is)

    -- a solution has no fault
    shown_no_fault : IsSolved scan settings mesh claim → (reason : Reason) → IsFault scan settings mesh claim reason → ⊥
    shown_no_fault shown (OtherCounts which a b) h = not_same_count which a b h (same_count shown.solution.counts which)
    shown_no_fault shown reason h =
        let known = best_from scan settings shown.surface claim shown.solution in
        none_here scan (scene_of_scan scan settings) known.complex claim mesh known.best known.cost_is
        (shown.mesh_is ∙ ap surface_text known.surface_is) reason
        (subst (λ (complex : Complex). IsReason scan (scene_of_scan scan settings) complex claim mesh reason)
        (one_complex (scene_of_scan scan settings) h.complex known.complex h.complex_is known.complex_is) h.reason_is)

    -- ---- one answer
    -- what an answer says of what a certificate states
    abbrev Holds : StampView → Answer → Type 0
    Holds stamp (Yes inside faces least) = IsStampedFor stamp claim × IsSolvedWith scan settings mesh inside faces least claim
    Holds stamp (No reason) = IsFaultHere scan settings stamp mesh claim reason

    one_shown : (a b c a' b' c' : ℕ) → IsSolvedWith scan settings mesh a b c claim → IsSolvedWith scan settings mesh a' b' c' claim
        → Yes a b c ≡ Yes a' b' c'
    one_shown a b c a' b' c' h k =
        let inside : a ≡ a' = h.inside_is ∙ sym k.inside_is in
        let same : h.shown.surface ≡ k.shown.surface =
        (solution_law scan settings h.shown.surface k.shown.surface claim claim h.shown.solution k.shown.solution).mesh_is in
        let faces : b ≡ b' = h.faces_is ∙ ap (λ (surface : Surface). length surface.faces) same ∙ sym k.faces_is in
        let costs : c ≡ c' = h.cost_is ∙ sym k.cost_is in
        cc

    one_holds : (stamp : StampView) (answer other : Answer) → Holds stamp answer → Holds stamp other → answer ≡ other
    one_holds stamp (Yes a b c) (Yes a' b' c') h k = one_shown a b c a' b' c' h.1 k.1
    one_holds stamp (Yes a b c) (No reason) h (inl k) = absurd (not_other stamp claim reason h.0 k)
    one_holds stamp (Yes a b c) (No reason) h (inr k) = absurd (shown_no_fault (h.1).shown reason k.1)
    one_holds stamp (No reason) (Yes a b c) (inl h) k = absurd (not_other stamp claim reason k.0 h)
    one_holds stamp (No reason) (Yes a b c) (inr h) k = absurd (shown_no_fault (k.1).shown reason h.1)
    one_holds stamp (No reason) (No other) (inl h) (inl k) = ap No (one_stamp stamp claim reason other h k)
    one_holds stamp (No reason) (No other) (inl h) (inr k) = absurd (not_other stamp claim reason k.0 h)
    one_holds stamp (No reason) (No other) (inr h) (inl k) = absurd (not_other stamp claim other h.0 k)
    one_holds stamp (No reason) (No other) (inr h) (inr k) = ap No (one_fault reason other h.1 k.1)

-- the answer where the text is refused
abbrev refused_answer : CertRefusal → Answer
refused_answer (refusals.BadLine n) = No (CertLine n)
refused_answer (refusals.Order n) = No (CertOrder n)
refused_answer refusals.CertCut = No CertCut
refused_answer refusals.NoMemory = No CertCut

record IsRefusedSo (cert : List ℕ) (answer : Answer) : Type 0 where
  refusal : CertRefusal
  refused : IsRefusedCertificate cert refusal
  answer_is : answer ≡ refused_answer refusal

refused_or_holds : (scan : Shown) (settings : Settings) (stamp : StampView) (mesh cert : List ℕ) (answer : Answer)
    → IsAnswer scan settings stamp mesh cert answer
    → IsRefusedSo cert answer ⊎ HasCertificate cert (λ claim. Holds scan settings claim mesh stamp answer)
refused_or_holds scan settings stamp mesh cert (Yes a b c) h = inr h
refused_or_holds scan settings stamp mesh cert (No (CertLine n)) h =
    inl (record { refusal = refusals.BadLine n; refused = h; answer_is = refl })
refused_or_holds scan settings stamp mesh cert (No (CertOrder n)) h =
    inl (record { refusal = refusals.Order n; refused = h; answer_is = refl })
refused_or_holds scan settings stamp mesh cert (No CertCut) h =
    inl (record { refusal = refusals.CertCut; refused = h; answer_is = refl })
refused_or_holds scan settings stamp mesh cert (No reason) h = inr h

-- a text has one claim
pub one_claim : (cert : List ℕ) (claim other : Claim) → IsWellFormed claim → IsWellFormed other → cert ≡ cert_text claim
    → cert ≡ cert_text other → claim ≡ other
one_claim cert claim other w v a b = (cert_code claim other [] [] w v (ap (λ (text : List ℕ). text ++ []) (sym a ∙ b))).0

pub one_answer : OneAnswer
one_answer scan settings stamp mesh cert answer other h k =
    by (refused_or_holds scan settings stamp mesh cert answer h) (refused_or_holds scan settings stamp mesh cert other k)
  where
    by : IsRefusedSo cert answer ⊎ HasCertificate cert (λ claim. Holds scan settings claim mesh stamp answer)
        → IsRefusedSo cert other ⊎ HasCertificate cert (λ claim. Holds scan settings claim mesh stamp other) → answer ≡ other
    by (inl a) (inl b) =
        a.answer_is ∙ ap refused_answer (refused_once cert a.refusal b.refusal a.refused b.refused) ∙ sym b.answer_is
    by (inl a) (inr b) = absurd (printed_not_refused b.claim a.refusal cert b.well_formed b.text_is a.refused)
    by (inr a) (inl b) = absurd (printed_not_refused a.claim b.refusal cert a.well_formed a.text_is b.refused)
    by (inr a) (inr b) =
        one_holds scan settings a.claim mesh stamp answer other a.holds
        (subst (λ (claim : Claim). Holds scan settings claim mesh stamp other)
        (one_claim cert b.claim a.claim b.well_formed a.well_formed b.text_is a.text_is) b.holds)
