use Rattle.std.proofs.Common.{ℕ, ◌≡◌, ◌<◌, sym, subst, ap, arith, List, length, get_or}
use Rattle.geo_sign.specs.Point.{Point, IsWithin, origin}
use Rattle.geo_sign.specs.declared.point.TheConstants.{DATA_LIMIT}
use Rattle.merge.proofs.Distinct.{few}
use Rattle.solution.proofs.ScanScenes.{points_within, points_apart}
use Rattle.recon_cmd.proofs.commands.cells.cells_of.Goals as goal

pub build_watched-requires-clause-within : goal.build_watched-requires-clause-within
build_watched-requires-clause-within g c =
    subst (λ (list : List Point). (k : ℕ) → k < length list → IsWithin DATA_LIMIT (get_or list k origin)) (sym c.requires.2)
    (λ k l. points_within c.requires.0 c.requires.1 k origin l)

pub build_watched-requires-clause-distinct : goal.build_watched-requires-clause-distinct
build_watched-requires-clause-distinct g c =
    subst (λ (list : List Point). (j k : ℕ) → j < length list → k < length list → get_or list j origin ≡ get_or list k origin
    → j ≡ k) (sym c.requires.2) (points_apart c.requires.0)

pub build_watched-requires-clause-few : goal.build_watched-requires-clause-few
build_watched-requires-clause-few g c =
    omega (arith, ap length c.requires.2, few c.requires.0.points, c.requires.1.point_count)

pub returns : goal.returns
returns g c = c.rising_cells.ensures c.args.points.now c.in_ok-linked.ensures.points
