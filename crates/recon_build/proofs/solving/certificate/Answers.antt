-- The counts are those of the scan: the store has eight vertices more than the scan has points (corner_count). What the rows state: labels
-- and amounts by the numbers of cells and sides say what the cut says of cells and facets by their vertices, so the rows found on a walk
-- are those of the stored complex in another order, whatever their lists are called. Sorted, they are the certificate's (inside_are,
-- flow_are, sinks_are), and certificate_is puts them together. It is well formed, since its numbers fit: the cost by the least there is
-- (cost_fits), the rows since their lists are in memory.
use Rattle.std.proofs.Common.{ℕ, ◌<◌, ◌≤◌, ◌^◌, refl, sym, subst, arith, Bool, List, slice_index}
use Rattle.flow_net.specs.Nets.{flag_at}
use Rattle.scan_rows.proofs.ShownLemmas.{scan_is_shown}
use Rattle.scan_rows.specs.Views.{shown_of}
use Rattle.visibility.specs.Scenes.{Scene}
use Rattle.cell_net.specs.ByNumber.{SaysOfCells, SaysOfSides, IsZeroElsewhere}
use Rattle.cell_net.specs.StoredComplexes.{stored_complex}
use Rattle.solution.specs.Scans.{points_of, scene_of_scan}
use Rattle.solution.proofs.Certificates.{certificate_is}
use Rattle.solution.proofs.SightLists.{few_vertices, few_sights}
use Rattle.solution.proofs.CellCuts.{cost_fits}
use Rattle.recon_build.proofs.SortedRows.{inside_are, flow_are, sinks_are}
use Rattle.solution.proofs.Stored.{corner_count}
use Rattle.recon_build.proofs.WellFormed.{well_formed, fit_counts, version_of}
use Rattle.recon_build.proofs.solving.certificate.Goals as goal

pub returns-clause-counts : goal.returns-clause-counts
returns-clause-counts c =
    record {
      points =
          omega (
            arith,
            c.vertex_count.ensures,
            corner_count c.args.tetra.now (points_of (shown_of c.args.scan.now)) c.requires.points,
          );
      scanners = omega (arith, c.len.ensures, c.args.scan.now.scanners.ok);
      sights = omega (arith, c.len-2.ensures, c.args.scan.now.seen.ok);
      vote = refl;
      smooth = refl;
    }

pub returns-clause-states : goal.returns-clause-states
returns-clause-states c = λ is.
    (let s : Scene = scene_of_scan (shown_of c.args.scan.now) c.args.settings in
    let slots = c.args.tetra.now.slots in
    let cut = c.args.cut.now in
    let complex = stored_complex is.fixed slots in
    let few : s.vertices.count ≤ 2 ^ 32 = omega (arith, few_vertices c.args.scan.now c.args.settings) in
    certificate_is s complex is.listing is.inside is.on_facet is.on_cell _ is.valid is.equal is.cost_is
    (inside_are s few complex is.listing is.inside _
    (c.in_ok-inside_rows.ensures.moved is.inside
    (subst (λ (flags : List Bool). SaysOfCells slots (flag_at flags) is.inside) (sym c.as_slice.ensures) is.labels_say))
    c.in_ok-inside_rows.ensures.sorted)
    (flow_are s few complex is.listing is.on_facet _
    (c.in_ok-flow_rows.ensures.moved is.fixed is.on_facet
    (subst (λ (amounts : List ℕ). SaysOfSides slots is.fixed (slice_index amounts) is.on_facet) (sym c.as_slice-2.ensures)
    is.arcs_say)
    (subst (λ (amounts : List ℕ). IsZeroElsewhere slots is.fixed (slice_index amounts)) (sym c.as_slice-2.ensures)
    is.zero_elsewhere))
    c.in_ok-flow_rows.ensures.sorted)
    (sinks_are s few complex is.listing is.on_cell _
    (c.in_ok-sink_rows.ensures.moved is.on_cell
    (subst (λ (amounts : List ℕ). SaysOfCells slots (slice_index amounts) is.on_cell) (sym c.as_slice-3.ensures) is.sinks_say))
    c.in_ok-sink_rows.ensures.sorted))

pub returns-clause-well_formed : goal.returns-clause-well_formed
returns-clause-well_formed c = λ is.
    (let s : Scene = scene_of_scan (shown_of c.args.scan.now) c.args.settings in
    let cost : c.args.cut.now.cost < 2 ^ 64 =
    omega (
      arith,
      cost_fits (shown_of c.args.scan.now) c.args.settings c.args.tetra.now.slots c.args.cut.now
          (scan_is_shown c.args.scan.now) is,
    ) in
    well_formed s is.listing.complex is.inside _
    is.listing.complex_is (few_vertices c.args.scan.now c.args.settings) (few_sights c.args.scan.now)
    (version_of c.args.stamp)
    (fit_counts _ c.args.scan.now c.args.settings (returns-clause-counts c) cost)
    (record {
      inside = omega (arith, c.in_ok-inside_rows.field-0.ok, c.in_ok-inside_rows.field-0.small);
      flow = omega (arith, c.in_ok-flow_rows.field-0.ok, c.in_ok-flow_rows.field-0.small);
      sink = omega (arith, c.in_ok-sink_rows.field-0.ok, c.in_ok-sink_rows.field-0.small);
    })
    (returns-clause-states c is))

pub overflow_sub-result : goal.overflow_sub-result
overflow_sub-result c =
    omega
    (arith, c.vertex_count.ensures, corner_count c.args.tetra.now (points_of (shown_of c.args.scan.now)) c.requires.points)
