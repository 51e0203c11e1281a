-- The sights of a scan, each with the vertex of its point.
--
-- A sight's row is one of the rows (row_here), so the index of its point among the distinct ones is there and, with the
-- eight corners before it, fits 32 bits. Each turn adds the sight of the definitions to those so far (sights_more).
use Rattle.std.proofs.Common.{ℕ, ◌≡◌, ◌+◌, ◌<◌, [], ◌∷◌, ◌++◌, ap, arith, subst, sym, ◌∙◌, get_or, length, List, map, take}
use Rattle.flow_net.specs.declared.votes.Sight.{Sight}
use Rattle.scan_rows.proofs.ShownLemmas.{scan_is_shown}
use Rattle.scan_rows.specs.Shown.{Shown}
use Rattle.scan_rows.specs.Views.{shown_of}
use Rattle.scan_rows.specs.declared.scan.Scan.{Scan}
use Rattle.scan_rows.specs.declared.scan.Seen.{Seen}
use Rattle.solution.specs.Scans.{sight_of}
use Rattle.solution.proofs.SightLists.{no_sight, seen_at, index_count, few_indices, sights_more}
use Rattle.solution.proofs.sights.sights_of.Goals as goal

-- the row of the sight that the loop has come to
row_here : (scan : Scan) (list : List Seen) (i : ℕ) → list ≡ scan.seen.items → i < length list
    → (get_or list i no_sight).row < length scan.points.items
row_here scan list i is l =
    subst (λ (seen : List Seen). (get_or seen i no_sight).row < length scan.points.items) (sym is)
    (seen_at (shown_of scan) (scan_is_shown scan) i (omega (arith, l, ap length is))).row

pub bounds-of_row-seen : goal.bounds-of_row-seen
bounds-of_row-seen c =
    omega (
      arith,
      row_here c.args.scan.now c.as_slice-seen-items.result.now c.loop-seen.seen-index c.as_slice-seen-items.ensures.value
          (omega (arith, c.loop-seen-test.true)),
      index_count (shown_of c.args.scan.now) c.args.of_row.now c.requires,
    )

pub overflow_add-of_row : goal.overflow_add-of_row
overflow_add-of_row c =
    omega (
      arith,
      few_indices c.args.scan.now c.args.of_row.now
          (get_or c.as_slice-seen-items.result.now c.loop-seen.seen-index no_sight).row c.requires
          (row_here c.args.scan.now c.as_slice-seen-items.result.now c.loop-seen.seen-index c.as_slice-seen-items.ensures.value
          (omega (arith, c.loop-seen-test.true))),
    )

pub loop-seen-preserved : goal.loop-seen-preserved
loop-seen-preserved c =
    let scan : Shown = shown_of c.args.scan.now in
    let i : ℕ = c.loop-seen.seen-index in
    let row : ℕ = (get_or c.args.scan.now.seen.items i no_sight).row in
    let l : i < length scan.seen = omega (arith, c.loop-seen-test.true, ap length c.as_slice-seen-items.ensures.value) in
    let weight : c.from.result ≡ (get_or scan.seen i no_sight).weight =
    c.from.ensures ∙ ap (λ (list : List Seen). (get_or list i no_sight).weight) c.as_slice-seen-items.ensures.value in
    c.in_ok-push.ensures.items
    ∙ ap (λ (sights : List Sight). sights
    ++ (record {
      vertex = 8 + get_or c.args.of_row.now (get_or c.as_slice-seen-items.result.now i no_sight).row 0;
      scanner = (get_or c.as_slice-seen-items.result.now i no_sight).scanner;
      weight = c.from.result;
    }) ∷ []) c.loop-seen.invariant
    ∙ ap (λ (list : List Seen). map (sight_of scan) (take i scan.seen)
    ++ (record {
      vertex = 8 + get_or c.args.of_row.now (get_or list i no_sight).row 0;
      scanner = (get_or list i no_sight).scanner;
      weight = c.from.result;
    }) ∷ []) c.as_slice-seen-items.ensures.value
    ∙ sym (sights_more scan c.args.of_row.now i c.from.result c.requires l
    (seen_at scan (scan_is_shown c.args.scan.now) i l).row weight)
