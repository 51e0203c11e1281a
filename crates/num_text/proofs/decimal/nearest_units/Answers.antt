use Rattle.std.proofs.Common.{◌+◌, ◌*◌, ◌/◌, ◌-◌, ◌^◌, ℕ, arith, ap, ◌∙◌}
use Rattle.num_text.specs.Steps.{within_limit}
use Rattle.num_text.proofs.ScaleLemmas.{nearest_up, nearest_down}
use Rattle.num_text.proofs.decimal.nearest_units.Goals as goal

pub returns-then-up-down : goal.returns-then-up-down
returns-then-up-down c =
    c.units_times.ensures
    ∙ ap within_limit
    (ap (λ (u : ℕ). c.args.value * u * 10 ^ (c.args.up - c.args.down)) c.from.ensures
    ∙ nearest_up c.args.value c.args.unit c.args.up c.args.down (omega arith))

pub returns-else-up-down : goal.returns-else-up-down
returns-else-up-down c =
    c.units_over.ensures
    ∙ ap within_limit
    (ap (λ (u : ℕ). (2 * (c.args.value * u) + 10 ^ (c.args.down - c.args.up)) / (2 * 10 ^ (c.args.down - c.args.up)))
    c.from.ensures ∙ nearest_down c.args.value c.args.unit c.args.up c.args.down (omega arith))
