use Rattle.std.proofs.Common.{◌<◌, ◌^◌, ℕ, get_or, arith}
use Rattle.cell_net.proofs.Facts.{shape_of}
use Rattle.cell_net.proofs.network.CellNetwork.over.Goals as goal

pub invariant_of-result : goal.invariant_of-result
invariant_of-result c =
    let crossed_fit : (j : ℕ) → get_or c.args.crossed.now j 0 < 2 ^ 32 = λ j. let fit = c.type_inv.crossed j in omega (arith, fit) in
    let behind_fit : (v : ℕ) → get_or c.args.behind.now v 0 < 2 ^ 32 = λ v. let fit = c.type_inv.behind v in omega (arith, fit) in
    record {
      shape = shape_of c.args.tetra.now c.args.crossed.now c.args.behind.now c.args.fixed.now c.args.settings c.facts.ensures
          c.requires.fixed c.requires.crossed c.requires.behind crossed_fit behind_fit;
      few = c.requires.few;
    }
