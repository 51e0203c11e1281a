use Rattle.std.proofs.Common.{◌≡◌, ◌+◌, ℕ, true, arith, set, slice_index, sym, subst}
use Rattle.std.proofs.lemmas.Grind.{get_or_default_zero}
use Rattle.solution.proofs.Flags.{AreFixedTo, scanner_flag_in, scanner_fixed}
use Rattle.solution.proofs.fixing.fixed_cells.Goals as goal

pub index_mut-requires : goal.index_mut-requires
index_mut-requires c =
    let l =
    scanner_flag_in c.args.t.now c.args.scanners.now c.args.cells.now c.loop-cell.cell-index c.loop-cell.flags.items c.requires
    (omega (arith, c.loop-cell-test.true)) c.loop-cell.invariant in
    let d =
    get_or_default_zero c.args.cells.now c.loop-cell.cell-index c.cell-item.result (omega (arith, c.loop-cell-test.true)) in
    omega (arith, l, d, c.number.ensures, c.cell-item.is, c.loop-cell.flags.ok)

pub loop-cell-preserved : goal.loop-cell-preserved
loop-cell-preserved c =
    let d =
    get_or_default_zero c.args.cells.now c.loop-cell.cell-index c.cell-item.result (omega (arith, c.loop-cell-test.true)) in
    let i : c.number.result ≡ slice_index c.args.cells.now c.loop-cell.cell-index =
    omega (arith, d, c.number.ensures, c.cell-item.is) in
    subst (λ (n : ℕ).
    AreFixedTo c.args.t.now c.args.scanners.now (c.loop-cell.cell-index + 1) (set c.loop-cell.flags.items n true)) (sym i)
    (scanner_fixed c.args.t.now c.args.scanners.now c.args.cells.now c.loop-cell.cell-index c.loop-cell.flags.items c.requires
    (omega (arith, c.loop-cell-test.true)) c.loop-cell.invariant)
