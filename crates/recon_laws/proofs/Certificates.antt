-- The certificates of a scan in the printed form.
--
-- A claim that states labels and a flow has the text of these lines (text_stated). So an accepted certificate is one of its labels
-- (certificate_of), with the flow that its rows state. And a text of these lines is that of the claim with these rows (text_of_claim).
-- Its rows state the labels and the flow again (states), and it is well formed: the counts and the least cost of a scan fit, and a text
-- within the limit has no more rows than bytes (formed).
use Rattle.std.proofs.Common.{ℕ, ◌≡◌, ◌≤◌, ◌^◌, not, refl, ap, ap₂, sym, subst, ◌∙◌, arith, Bool, true, false, Option, Some, None}
use Rattle.std.proofs.Common.{List, [], ◌∷◌, ◌++◌, length, map, filter, codes, eqb, length-append}
use Rattle.std.specs.Option.{ForSome}
use Rattle.std.proofs.lemmas.List.{length-map}
use Rattle.std.proofs.lemmas.List.Sorted.{IsPermutation-refl}
use Rattle.cert_text.specs.Texts.{cert_text, counts_text, end_line, inside_word, flow_word, sink_word, version_text}
use Rattle.cert_text.specs.Texts.{points_word, scanners_word, sights_word, vote_word, smooth_word, cost_word}
use Rattle.certificate.specs.Certificates.{Claim, FitCounts, IsWellFormed}
use Rattle.certificate.specs.Stamps.{IsVersion, StampView}
use Rattle.certificate.specs.declared.certificate.FlowRow.{FlowRow}
use Rattle.certificate.specs.declared.certificate.SinkRow.{SinkRow}
use Rattle.flow_net.specs.Networks.{Network, IsValidFlow, cost, value}
use Rattle.flow_net.specs.declared.votes.Settings.{Settings}
use Rattle.line_text.specs.Numbers.{counted}
use Rattle.merge.proofs.Distinct.{few}
use Rattle.recon_build.proofs.WellFormed.{IsShort, well_formed}
use Rattle.recon_check.specs.Stamps.{IsStampedFor}
use Rattle.scan_rows.specs.Shown.{Shown, IsShown}
use Rattle.solution.proofs.Certificates.{certificate_is}
use Rattle.solution.proofs.LeastCosts.{least_cost_law}
use Rattle.solution.proofs.SightLists.{sight_list}
use Rattle.solution.specs.Scans.{points_of, scene_of_scan}
use Rattle.solution.specs.Solutions.{HasCounts, IsCertificate, flow_on, flow_row, flow_rows, sink_at, sink_row, sink_rows}
use Rattle.visibility.specs.Complexes.{Complex}
use Rattle.visibility.specs.Cuts.{IsLeastInside, network_over}
use Rattle.visibility.specs.Listings.{IsListingOf}
use Rattle.visibility.specs.Votes.{IsComplexOf}
use Rattle.recon_cmd.specs.Options.{Options}
use Rattle.recon_cmd.specs.Stamps.{stamp_for, stamp_of}
use Rattle.recon_laws.specs.ExactChecks.{IsCertificateOf, amount_rows, first_lines, list_lines, number_lines}
use Rattle.recon_laws.proofs.CertificateTexts.{few_rows, flow_numbers, head_is, sink_numbers, stamp_at_one, stamp_if, text_is}
use Rattle.recon_laws.proofs.Digests.{is_digest}

-- ---- the fingerprint
none_is_some : {T : Type 0} (x : T) → None ≡ Some x → ⊥
none_is_some x e = cc

at_one : (options : Options) (bytes : List ℕ) → options.unit ≡ 1 → options.fixed ≡ None
    → stamp_for options bytes ≡ stamp_at_one bytes
at_one options bytes unit fixed = ap₂ (λ u f. stamp_of bytes u f) unit fixed

stamp_is : (options : Options) (bytes : List ℕ) (stamp : Option StampView) → options.unit ≡ 1 → options.fixed ≡ None
    → ForSome stamp (λ stated. stated ≡ stamp_for options bytes) → (stamped : Bool) × (stamp ≡ stamp_if stamped bytes)
stamp_is options bytes None unit fixed is = (false, refl)
stamp_is options bytes (Some s) unit fixed is = (true, ap Some (is s refl ∙ at_one options bytes unit fixed))

pub stamped_for : (options : Options) (bytes : List ℕ) (stamped : Bool) → options.unit ≡ 1 → options.fixed ≡ None
    → ForSome (stamp_if stamped bytes) (λ stated. stated ≡ stamp_for options bytes)
stamped_for options bytes false unit fixed = λ s e. absurd (none_is_some s e)
stamped_for options bytes true unit fixed = λ s e. same s e ∙ sym (at_one options bytes unit fixed)
  where
    same : (s : StampView) → Some (stamp_at_one bytes) ≡ Some s → s ≡ stamp_at_one bytes
    same s e = cc

version : (bytes : List ℕ) (stamped : Bool) → IsVersion (stamp_if stamped bytes)
version bytes false = tt
version bytes true =
    record { digest = is_digest bytes; unit = (omega arith, omega arith); fixed = λ p e. absurd (none_is_some p e) }

-- ---- the text of a claim
map_map : {A B C : Type 0} (f : B → C) (g : A → B) (xs : List A) → map f (map g xs) ≡ map (λ x. f (g x)) xs
map_map f g [] = refl
map_map f g (x ∷ xs) = ap (λ rest. f (g x) ∷ rest) (map_map f g xs)

flow_are : (keys : List (List ℕ)) (on : List ℕ → ℕ) → map flow_numbers (flow_rows keys on) ≡ amount_rows keys on
flow_are keys on = map_map flow_numbers (λ (key : List ℕ). flow_row key (on key)) (filter (λ (key : List ℕ). not (eqb (on key) 0)) keys)

sinks_are : (keys : List (List ℕ)) (at : List ℕ → ℕ) → map sink_numbers (sink_rows keys at) ≡ amount_rows keys at
sinks_are keys at = map_map sink_numbers (λ (key : List ℕ). sink_row key (at key)) (filter (λ (key : List ℕ). not (eqb (at key) 0)) keys)

-- the certificate with these rows
abbrev claim_of : Option StampView → Shown → Settings → (least : ℕ) → (inside : List (List ℕ)) → List FlowRow → List SinkRow → Claim
claim_of stamp scan settings least inside flow sink =
    record {
      stamp = stamp;
      counts = record {
        points = length (points_of scan);
        scanners = length scan.scanners;
        sights = length scan.seen;
        vote = settings.vote;
        smooth = settings.smooth;
        cost = least;
      };
      inside = inside;
      flow = flow;
      sink = sink;
    }

module _ (bytes : List ℕ) (scan : Shown) (settings : Settings) (complex : Complex) (inside : List ℕ → Bool)
    (on at : List ℕ → ℕ) where
  abbrev net : Network (List ℕ) (List ℕ)
  net = network_over (scene_of_scan scan settings) complex

  abbrev least : ℕ
  least = cost net inside

  -- the three lists and the last line
  abbrev lists : List ℕ
  lists =
      list_lines (codes "inside ") (filter inside complex.cells)
      ++ (list_lines (codes "flow ") (amount_rows complex.facets on)
      ++ (list_lines (codes "sink ") (amount_rows complex.cells at) ++ codes "end\n"))

  -- the text of a certificate of these labels and amounts
  abbrev pub whole_text : Bool → List ℕ
  whole_text stamped = first_lines stamped bytes ++ (number_lines scan settings least ++ lists)

  -- a claim that states these labels and amounts
  pub record States (stamped : Bool) (claim : Claim) : Type 0 where
    pub stamp : claim.stamp ≡ stamp_if stamped bytes
    pub counts : HasCounts claim scan settings
    pub cost_is : claim.counts.cost ≡ least
    pub inside_is : claim.inside ≡ filter inside complex.cells
    pub flow_is : claim.flow ≡ flow_rows complex.facets on
    pub sink_is : claim.sink ≡ sink_rows complex.cells at

  numbers_stated : (stamped : Bool) (claim : Claim) → States stamped claim
      → counts_text claim.counts ≡ number_lines scan settings least
  unfolding points_word scanners_word sights_word vote_word smooth_word cost_word
  numbers_stated stamped claim is =
      ap₂ (λ (a b : List ℕ). a ++ b) (ap (counted points_word) is.counts.points)
      (ap₂ (λ (a b : List ℕ). a ++ b) (ap (counted scanners_word) is.counts.scanners)
      (ap₂ (λ (a b : List ℕ). a ++ b) (ap (counted sights_word) is.counts.sights)
      (ap₂ (λ (a b : List ℕ). a ++ b) (ap (counted vote_word) is.counts.vote)
      (ap₂ (λ (a b : List ℕ). a ++ b) (ap (counted smooth_word) is.counts.smooth) (ap (counted cost_word) is.cost_is)))))

  lists_stated : (stamped : Bool) (claim : Claim) → States stamped claim
      → list_lines inside_word claim.inside
      ++ (list_lines flow_word (map flow_numbers claim.flow) ++ (list_lines sink_word (map sink_numbers claim.sink) ++ end_line))
      ≡ lists
  unfolding inside_word flow_word sink_word end_line
  lists_stated stamped claim is =
      ap₂ (λ (a b : List ℕ). a ++ b) (ap (list_lines inside_word) is.inside_is)
      (ap₂ (λ (a b : List ℕ). a ++ b)
      (ap (list_lines flow_word) (ap (map flow_numbers) is.flow_is ∙ flow_are complex.facets on))
      (ap (λ (a : List ℕ). a ++ end_line)
      (ap (list_lines sink_word) (ap (map sink_numbers) is.sink_is ∙ sinks_are complex.cells at))))

  pub text_stated : (stamped : Bool) (claim : Claim) → IsWellFormed claim → States stamped claim
      → cert_text claim ≡ whole_text stamped
  text_stated stamped claim formed is =
      text_is claim formed
      ∙ ap₂ (λ (a b : List ℕ). a ++ b) (ap version_text is.stamp ∙ head_is stamped bytes)
      (ap₂ (λ (a b : List ℕ). a ++ b) (numbers_stated stamped claim is) (lists_stated stamped claim is))

  -- ---- a text of these lines
  abbrev pub claim : Bool → Claim
  claim stamped =
      claim_of (stamp_if stamped bytes) scan settings least (filter inside complex.cells) (flow_rows complex.facets on)
      (sink_rows complex.cells at)

  pub counts_here : (stamped : Bool) → HasCounts (claim stamped) scan settings
  counts_here stamped = record { points = refl; scanners = refl; sights = refl; vote = refl; smooth = refl }

  states_claim : (stamped : Bool) → States stamped (claim stamped)
  states_claim stamped =
      record {
        stamp = refl;
        counts = counts_here stamped;
        cost_is = refl;
        inside_is = refl;
        flow_is = refl;
        sink_is = refl;
      }

  few_rows_of : (stamped : Bool) → length (whole_text stamped) ≤ 2 ^ 32 → IsShort (claim stamped)
  few_rows_of stamped within =
      let cells : List (List ℕ) = filter inside complex.cells in
      let flow : List (List ℕ) = amount_rows complex.facets on in
      let sink : List (List ℕ) = amount_rows complex.cells at in
      let last : List ℕ = list_lines sink_word sink ++ end_line in
      let later : List ℕ = list_lines flow_word flow ++ last in
      let e1 = length-append (first_lines stamped bytes) (number_lines scan settings least ++ lists) in
      let e2 = length-append (number_lines scan settings least) lists in
      let e3 = length-append (list_lines inside_word cells) later in
      let e4 = length-append (list_lines flow_word flow) last in
      let e5 = length-append (list_lines sink_word sink) end_line in
      let same : lists ≡ list_lines inside_word cells ++ later =
      sym (lists_stated stamped (claim stamped) (states_claim stamped))
      ∙ ap₂ (λ (f s : List (List ℕ)). list_lines inside_word cells ++ (list_lines flow_word f ++ (list_lines sink_word s ++ end_line)))
      (flow_are complex.facets on) (sinks_are complex.cells at) in
      let e6 : length lists ≡ length (list_lines inside_word cells ++ later) = ap length same in
      let flow_count : length flow ≡ length (flow_rows complex.facets on) =
      ap length (sym (flow_are complex.facets on)) ∙ length-map (flow_rows complex.facets on) flow_numbers in
      let sink_count : length sink ≡ length (sink_rows complex.cells at) =
      ap length (sym (sinks_are complex.cells at)) ∙ length-map (sink_rows complex.cells at) sink_numbers in
      record {
        inside = omega (arith, within, e1, e2, e3, e6, few_rows inside_word cells);
        flow = omega (arith, within, e1, e2, e3, e4, e6, flow_count, few_rows flow_word flow);
        sink = omega (arith, within, e1, e2, e3, e4, e5, e6, sink_count, few_rows sink_word sink);
      }

  -- the rising lists of cells and facets are a listing
  abbrev listing : IsComplexOf (scene_of_scan scan settings) complex → IsListingOf (scene_of_scan scan settings) complex
  listing is =
      record {
        complex = complex;
        complex_is = is;
        cells_are = IsPermutation-refl complex.cells;
        facets_are = IsPermutation-refl complex.facets;
        same_cell = λ f h. refl;
      }

  -- its rows state these labels and this flow
  pub states : (stamped : Bool) → IsComplexOf (scene_of_scan scan settings) complex
      → IsValidFlow net on at → value net at ≡ least
      → IsCertificate (scene_of_scan scan settings) complex inside (claim stamped)
  states stamped is flow equal =
      certificate_is (scene_of_scan scan settings) complex (listing is) inside on at (claim stamped) flow (sym equal) refl refl refl
      refl

  fits : (stamped : Bool) → IsShown scan → IsComplexOf (scene_of_scan scan settings) complex
      → IsLeastInside (scene_of_scan scan settings) complex inside → FitCounts (claim stamped).counts
  fits stamped shown is best =
      let small = least_cost_law scan settings complex inside shown is best.least_cost in
      record {
        points = omega (arith, few scan.points, shown.point_count);
        scanners = omega (arith, shown.scanner_count);
        sights = omega (arith, shown.sight_count);
        vote = omega (arith, settings.vote_at_most);
        smooth = omega (arith, settings.smooth_at_most);
        cost = omega (arith, small);
      }

  -- and it is well formed
  pub formed : (stamped : Bool) → IsShown scan → IsComplexOf (scene_of_scan scan settings) complex
      → IsLeastInside (scene_of_scan scan settings) complex inside → IsValidFlow net on at
      → value net at ≡ least → length (whole_text stamped) ≤ 2 ^ 32 → IsWellFormed (claim stamped)
  formed stamped shown is best flow equal within =
      well_formed (scene_of_scan scan settings) complex inside (claim stamped) is (omega (arith, few scan.points, shown.point_count))
      (sight_list scan shown) (version bytes stamped) (fits stamped shown is best) (few_rows_of stamped within)
      (states stamped is flow equal)

  pub text_of_claim : (stamped : Bool) → IsWellFormed (claim stamped) → whole_text stamped ≡ cert_text (claim stamped)
  text_of_claim stamped formed = sym (text_stated stamped (claim stamped) formed (states_claim stamped))

-- ---- certificates of labels
pub whole_is : (bytes cert : List ℕ) (scan : Shown) (settings : Settings) (complex : Complex) (inside : List ℕ → Bool)
    → (is : IsCertificateOf bytes scan settings complex inside cert)
    → cert ≡ whole_text bytes scan settings complex inside is.on_facet is.on_cell is.stamped
whole_is bytes cert scan settings complex inside is =
    subst (λ (n : ℕ). cert ≡ first_lines is.stamped bytes ++ (number_lines scan settings n
    ++ (list_lines (codes "inside ") (filter inside complex.cells)
    ++ (list_lines (codes "flow ") (amount_rows complex.facets is.on_facet)
    ++ (list_lines (codes "sink ") (amount_rows complex.cells is.on_cell) ++ codes "end\n"))))) is.cost_is is.text_is

-- an accepted certificate is one
pub certificate_of : (options : Options) (bytes cert : List ℕ) (scan : Shown) (settings : Settings) (complex : Complex)
    (inside : List ℕ → Bool) (claim : Claim) → options.unit ≡ 1 → options.fixed ≡ None → cert ≡ cert_text claim
    → IsWellFormed claim → IsStampedFor (stamp_for options bytes) claim → HasCounts claim scan settings
    → IsCertificate (scene_of_scan scan settings) complex inside claim
    → IsCertificateOf bytes scan settings complex inside cert
certificate_of options bytes cert scan settings complex inside claim unit fixed text formed stamp counts certificate =
    let head = stamp_is options bytes claim.stamp unit fixed stamp in
    record {
      stamped = head.0;
      on_facet = flow_on claim;
      on_cell = sink_at claim;
      flow = certificate.flow;
      least = cost (network_over (scene_of_scan scan settings) complex) inside;
      cost_is = refl;
      value_is = sym (certificate.value_is ∙ certificate.cost_is);
      text_is = text ∙ text_stated bytes scan settings complex inside (flow_on claim) (sink_at claim) head.0 claim formed (record {
        stamp = head.1;
        counts = counts;
        cost_is = certificate.cost_is;
        inside_is = certificate.inside_is;
        flow_is = certificate.flow_is;
        sink_is = certificate.sink_is;
      });
    }
