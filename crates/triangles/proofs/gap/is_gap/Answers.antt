use Rattle.std.proofs.Common.{inl}
use Rattle.triangles.proofs.Excluding.{turned, shared_turned}
use Rattle.triangles.proofs.gap.is_gap.Goals as goal

pub returns-then-are_covered-2 : goal.returns-then-are_covered-2
returns-then-are_covered-2 c = λ n shared.
    let off = c.excluded_off-off_other.ensures (turned n) (shared_turned c.args.one.now c.args.other.now n shared) in
    let covered = c.if-are_covered-2.ensures in
    inl (record { p = λ e. off.p (covered.p e); q = λ e. off.q (covered.q e); r = λ e. off.r (covered.r e) })

pub is_gap_off_planes-requires : goal.is_gap_off_planes-requires
is_gap_off_planes-requires c = λ n shared.
    let of_other = c.excluded_off-off_one.ensures n shared in
    let of_one = c.excluded_off-off_other.ensures (turned n) (shared_turned c.args.one.now c.args.other.now n shared) in
    record { p = of_one.p; q = of_one.q; r = of_one.r; x = of_other.p; y = of_other.q; z = of_other.r }
