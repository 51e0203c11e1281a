use Rattle.std.proofs.Common.{◌^◌, ◌*◌}
use mir.Syntax.{w64}
use Rattle.std.proofs.Common.{◌*ℤ◌}
use Rattle.geo_sign.proofs.Bounds.{Held, kept, held_kept, held_product, within_held}
use Rattle.mesh_check.proofs.far.along.Goals as goal

pub returns-clause-value : goal.returns-clause-value
returns-clause-value c =
    let all : Held (2 ^ 20 * 2 ^ 37) (kept w64 (kept w64 c.args.n *ℤ kept w64 c.args.d)) (c.args.n *ℤ c.args.d) =
    held_kept w64 (held_product w64 c.args.n c.args.d c.requires.n c.requires.d tt tt) tt in
    all.is

pub returns-clause-bound : goal.returns-clause-bound
returns-clause-bound c =
    within_held (held_kept w64 (held_product w64 c.args.n c.args.d c.requires.n c.requires.d tt tt) tt)
