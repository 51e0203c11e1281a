use Rattle.std.proofs.Common.{arith, ◌≤◌, ◌^◌}
use Rattle.geo_sign.proofs.Bounds.{within_held}
use Rattle.mesh_check.proofs.Measured.{gap_held}
use Rattle.mesh_check.proofs.near.gap.Goals as goal

pub returns-clause-value : goal.returns-clause-value
returns-clause-value c =
    let few : c.args.fine ≤ 2 ^ 32 = omega arith in
    (gap_held c.args.fine c.args.home c.args.x c.from.result c.from-2.result c.from-3.result c.from.ensures c.from-2.ensures
    c.from-3.ensures few c.requires.home_in c.requires.x_in).is

pub returns-clause-bound : goal.returns-clause-bound
returns-clause-bound c =
    let few : c.args.fine ≤ 2 ^ 32 = omega arith in
    omega (
      arith,
      within_held (gap_held c.args.fine c.args.home c.args.x c.from.result c.from-2.result c.from-3.result c.from.ensures c.from-2.ensures
          c.from-3.ensures few c.requires.home_in c.requires.x_in),
    )
