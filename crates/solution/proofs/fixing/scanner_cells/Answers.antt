use Rattle.std.proofs.Common.{ℕ, ◌≡◌, ◌+◌, sym, subst, ◌∙◌, arith, List, get_or}
use Rattle.std.proofs.lemmas.List.{get_or_default}
use Rattle.geo_sign.specs.Point.{Point, origin}
use Rattle.solution.specs.Counts.{IsScannerCell}
use Rattle.solution.proofs.Flags.{AreFirstCells, one_found}
use Rattle.solution.proofs.fixing.scanner_cells.Goals as goal

pub loop-scanner-preserved : goal.loop-scanner-preserved
loop-scanner-preserved c =
    let s = c.args.t.now in
    let scanners = c.args.scanners.now in
    let n = c.loop-scanner.scanner-index in
    let q = c.scanner-item.result in
    let found = c.locate_scanner in
    let cell : IsScannerCell s q found.result =
    record { end = record { live = found.ensures.live; is = found.ensures.is }; only = found.ensures.only } in
    let read : q ≡ get_or scanners n origin =
    c.scanner-item.is ∙ get_or_default scanners n q origin (omega (arith, c.loop-scanner-test.true)) in
    subst (λ (xs : List ℕ). AreFirstCells s scanners (n + 1) xs) (sym c.in_ok-push.ensures.items)
    (one_found s scanners n c.loop-scanner.cells.items found.result c.loop-scanner.invariant
    (subst (λ (p : Point). IsScannerCell s p found.result) read cell))
