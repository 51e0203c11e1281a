-- The certificate of a scan's network is well formed.
use Rattle.std.proofs.Common.{ℕ, zero, suc, ◌≡◌, ◌+◌, ◌<◌, ◌≤◌, ◌^◌, not, refl, ap, sym, subst, arith, Bool, true, false}
use Rattle.std.proofs.Common.{cond, List, [], ◌∷◌, length, map, filter, get_or, eqb, AllPairs, Contains, Option}
use Rattle.std.proofs.lemmas.Bool.{eqb-false}
use Rattle.std.proofs.lemmas.List.{get_or-map, length-map}
use Rattle.std.proofs.lemmas.List.Kept.{AllPairs-filter}
use Rattle.std.specs.Option.{option_map}
use Rattle.geo_sign.proofs.CellRows.{last_below}
use Rattle.geo_sign.proofs.RowLaws.{by_rising}
use Rattle.certificate.specs.Stamps.{IsVersion}
use Rattle.certificate.specs.declared.stamp.Stamp.{Stamp}
use Rattle.certificate.specs.Certificates.{Claim, FitCounts, AreCellRows, IsFlowList, IsSinkList, IsWellFormed, stamp_view}
use Rattle.certificate.specs.Rows.{IsCellRow, IsFlowRow, IsSinkRow}
use Rattle.geo_sign.specs.Numbers.{IsFacetRow}
use Rattle.certificate.specs.declared.certificate.FlowRow.{FlowRow}
use Rattle.certificate.specs.declared.certificate.SinkRow.{SinkRow}
use Rattle.geo_sign.specs.Vertices.{Vertices}
use Rattle.geo_sign.specs.Cells.{IsRisingCell}
use Rattle.geo_sign.specs.Rising.{IsBefore}
use Rattle.visibility.specs.Scenes.{Scene}
use Rattle.geo_sign.specs.Tetrahedron.{facet_at}
use Rattle.visibility.specs.Complexes.{Complex}
use Rattle.visibility.specs.Votes.{IsComplexOf}
use Rattle.visibility.specs.Flows.{IsValidFlow}
use Rattle.visibility.specs.Laws.{IsOrdered}
use Rattle.visibility.proofs.Amounts.{capacity_fits, sink_fits}
use Rattle.visibility.proofs.Ordered.{facets_are_ordered}
use Rattle.flow_net.specs.declared.votes.Settings.{Settings}
use Rattle.scan_rows.specs.ScanRows.{point_limit}
use Rattle.scan_rows.specs.Views.{shown_of}
use Rattle.scan_rows.specs.declared.scan.Scan.{Scan}
use Rattle.solution.proofs.SightLists.{few_points}
use Rattle.solution.specs.Solutions.{HasCounts, IsCertificate, flow_on, sink_at, flow_row, sink_row, flow_rows, sink_rows}
use Rattle.flow_net.specs.Weights.{IsSightList}

-- an element that was kept: it is in the list and passes the test
record IsKept (test : List ℕ → Bool) (rows : List (List ℕ)) (row : List ℕ) : Type 0 where
  there : Contains rows row
  passes : test row ≡ true

kept : (test : List ℕ → Bool) (rows : List (List ℕ)) (k : ℕ) (d : List ℕ) → k < length (filter test rows)
    → IsKept test rows (get_or (filter test rows) k d)
kept test [] k d within = absurd (omega arith)
kept test (row ∷ rows) k d within = by (test row) refl k within (λ j l. kept test rows j d l)
  where
    later : (other : List ℕ) → IsKept test rows other → IsKept test (row ∷ rows) other
    later other h = record { there = (suc h.there.0, omega (arith, h.there.1), h.there.2); passes = h.passes }

    by : (b : Bool) → test row ≡ b → (k : ℕ) → k < length (cond b (row ∷ filter test rows) (filter test rows))
        → ((j : ℕ) → j < length (filter test rows) → IsKept test rows (get_or (filter test rows) j d))
        → IsKept test (row ∷ rows) (get_or (cond b (row ∷ filter test rows) (filter test rows)) k d)
    by true e zero l rest = record { there = (0, omega arith, refl); passes = e }
    by true e (suc k) l rest = later (get_or (filter test rows) k d) (rest k (omega (arith, l)))
    by false e k l rest = later (get_or (filter test rows) k d) (rest k l)

facet_is : (n : ℕ) (f : List ℕ) → n ≤ 8 + point_limit → IsOrdered n f → IsFacetRow f
facet_is n f few o = grind arith

-- a cell of such vertices
cell_is : (v : Vertices) (row : List ℕ) → v.count ≤ 8 + point_limit → IsRisingCell v row → IsCellRow row
cell_is v row few = grind (arith, by_rising, last_below)

a_cell : (s : Scene) (complex : Complex) → IsComplexOf s complex → s.vertices.count ≤ 8 + point_limit → (row : List ℕ)
    → Contains complex.cells row → IsCellRow row
a_cell s complex is few row there = cell_is s.vertices row few (is.cells_are.cells row there)

-- an amount that is not 0
some_amount : (n : ℕ) → not (eqb n 0) ≡ true → 1 ≤ n
some_amount n e = grind (arith, eqb-false)

flow_list : (s : Scene) (complex : Complex) (claim : Claim) → IsComplexOf s complex → s.vertices.count ≤ 8 + point_limit
    → IsSightList s.sights → length (flow_rows complex.facets (flow_on claim)) < 2 ^ 64
    → IsValidFlow s complex (flow_on claim) (sink_at claim) → IsFlowList (flow_rows complex.facets (flow_on claim))
flow_list s complex claim is few few_sights short valid =
    let test : List ℕ → Bool = λ key. not (eqb (flow_on claim key) 0) in
    let keys : List (List ℕ) = filter test complex.facets in
    let make : List ℕ → FlowRow = λ key. flow_row key (flow_on claim key) in
    record {
      few = short;
      each = λ k d l. let m : k < length keys = omega (arith, l, length-map keys make) in
          let h : IsKept test complex.facets (get_or keys k []) = kept test complex.facets k [] m in
          subst IsFlowRow (sym (get_or-map make keys k [] d m))
          (record {
            facet =
                facet_is s.vertices.count (get_or keys k []) few (facets_are_ordered s complex is (get_or keys k []) h.there);
            some = some_amount (flow_on claim (get_or keys k [])) h.passes;
            fits = grind (arith, capacity_fits s (facet_at (get_or keys k [])) few_sights);
          });
      rising =
          subst (λ (rows : List (List ℕ)). AllPairs IsBefore rows) (sym (keys_of keys))
          (AllPairs-filter IsBefore test complex.facets is.facets_are.rising);
    }
  where
    keys_of : (keys : List (List ℕ))
        → map (λ (row : FlowRow). row.facet) (map (λ (key : List ℕ). flow_row key (flow_on claim key)) keys) ≡ keys
    keys_of [] = refl
    keys_of (key ∷ rest) = ap (λ (list : List (List ℕ)). key ∷ list) (keys_of rest)

sink_list : (s : Scene) (complex : Complex) (claim : Claim) → IsComplexOf s complex → s.vertices.count ≤ 8 + point_limit
    → IsSightList s.sights → length (sink_rows complex.cells (sink_at claim)) < 2 ^ 64
    → IsValidFlow s complex (flow_on claim) (sink_at claim) → IsSinkList (sink_rows complex.cells (sink_at claim))
sink_list s complex claim is few few_sights short valid =
    let test : List ℕ → Bool = λ key. not (eqb (sink_at claim key) 0) in
    let keys : List (List ℕ) = filter test complex.cells in
    let make : List ℕ → SinkRow = λ key. sink_row key (sink_at claim key) in
    record {
      few = short;
      each = λ k d l. let m : k < length keys = omega (arith, l, length-map keys make) in
          let h : IsKept test complex.cells (get_or keys k []) = kept test complex.cells k [] m in
          subst IsSinkRow (sym (get_or-map make keys k [] d m))
          (record {
            cell = a_cell s complex is few (get_or keys k []) h.there;
            some = some_amount (sink_at claim (get_or keys k [])) h.passes;
            fits = omega (arith, valid.within_sink (get_or keys k []) h.there, sink_fits s (get_or keys k []) few_sights);
          });
      rising =
          subst (λ (rows : List (List ℕ)). AllPairs IsBefore rows) (sym (keys_of keys))
          (AllPairs-filter IsBefore test complex.cells is.cells_are.rising);
    }
  where
    keys_of : (keys : List (List ℕ))
        → map (λ (row : SinkRow). row.cell) (map (λ (key : List ℕ). sink_row key (sink_at claim key)) keys) ≡ keys
    keys_of [] = refl
    keys_of (key ∷ rest) = ap (λ (list : List (List ℕ)). key ∷ list) (keys_of rest)

cell_list : (s : Scene) (complex : Complex) (inside : List ℕ → Bool) → IsComplexOf s complex
    → s.vertices.count ≤ 8 + point_limit → length (filter inside complex.cells) < 2 ^ 64
    → AreCellRows (filter inside complex.cells)
cell_list s complex inside is few short =
    record {
      few = short;
      each =
          λ k d l. a_cell s complex is few (get_or (filter inside complex.cells) k d) (kept inside complex.cells k d l).there;
      rising = AllPairs-filter IsBefore inside complex.cells is.cells_are.rising;
    }

-- the three lists of a certificate have lengths of 64 bits
pub record IsShort (claim : Claim) : Type 0 where
  pub inside : length claim.inside < 2 ^ 64
  pub flow : length claim.flow < 2 ^ 64
  pub sink : length claim.sink < 2 ^ 64

-- a certificate of a complex of as many vertices as a scan has at most is well formed, where its counts and its lists fit
pub well_formed : (s : Scene) (complex : Complex) (inside : List ℕ → Bool) (claim : Claim) → IsComplexOf s complex
    → s.vertices.count ≤ 8 + point_limit → IsSightList s.sights → IsVersion claim.stamp → FitCounts claim.counts → IsShort claim
    → IsCertificate s complex inside claim → IsWellFormed claim
well_formed s complex inside claim is few few_sights stamp counts short certificate =
    let inside_is : claim.inside ≡ filter inside complex.cells = certificate.inside_is in
    let flow_is : claim.flow ≡ flow_rows complex.facets (flow_on claim) = certificate.flow_is in
    let sink_is : claim.sink ≡ sink_rows complex.cells (sink_at claim) = certificate.sink_is in
    record {
      stamp = stamp;
      counts = counts;
      inside = grind (arith, cell_list s complex);
      flow =
          subst IsFlowList (sym flow_is)
          (flow_list s complex claim is few few_sights
          (subst (λ (rows : List FlowRow). length rows < 2 ^ 64) flow_is short.flow) certificate.flow);
      sink =
          subst IsSinkList (sym sink_is)
          (sink_list s complex claim is few few_sights
          (subst (λ (rows : List SinkRow). length rows < 2 ^ 64) sink_is short.sink) certificate.flow);
    }

-- a stamp is what its type keeps
pub version_of : (stamp : Option Stamp) → IsVersion (option_map stamp_view stamp)
version_of stamp = grind arith

-- the counts of a scan fit
pub fit_counts : (claim : Claim) (scan : Scan) (settings : Settings) → HasCounts claim (shown_of scan) settings
    → claim.counts.cost < 2 ^ 64 → FitCounts claim.counts
fit_counts claim scan settings has cost = grind (arith, few_points)
