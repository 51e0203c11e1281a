use Rattle.std.proofs.Common.{sym, ap, ◌∙◌, arith, ◌-◌, List, ℕ, length, take, drop, map, string_bytes}
use Rattle.flow_net.specs.declared.votes.TheConstants.{WEIGHT_LIMIT}
use Rattle.recon_cmd.specs.Options.{number_between}
use Rattle.recon_cmd.specs.Sweep.{sweep_behind}
use Rattle.recon_cmd.proofs.SweepWordLemmas.{sweep_at, too_few}
use Rattle.recon_cmd.proofs.commands.sweeping.sweep_words.Goals as goal

pub returns-in_default-clause-is : goal.returns-in_default-clause-is
returns-in_default-clause-is c = too_few string_bytes c.args.words.now c.args.forms c.in_default.len_below

pub returns-clause-is : goal.returns-clause-is
returns-clause-is c =
    sweep_at string_bytes c.args.words.now c.args.forms c.input-item.result c.from-item.result
    c.step-item.result c.count-item.result c.in_ok-from.from c.in_ok-step.step c.in_ok-count.count _
    c.in-len4-up.len_at_least c.input-item.is c.from-item.is c.step-item.is c.count-item.is
    (sym c.in_ok-from.was ∙ (c.number_in.ensures ∙ ap (number_between 0 WEIGHT_LIMIT) c.as_bytes.ensures.value))
    (sym c.in_ok-step.was ∙ (c.number_in-2.ensures ∙ ap (number_between 1 WEIGHT_LIMIT) c.as_bytes-2.ensures.value))
    (sym c.in_ok-count.was ∙ (c.number_in-3.ensures ∙ ap (number_between 1 64) c.as_bytes-3.ensures.value))
    (omega (arith, c.if-count-forms.false))
    (c.understand_behind.ensures.is
    ∙ ap (λ (x : List ℕ).
    sweep_behind x c.in_ok-from.from c.in_ok-step.step c.in_ok-count.count
    (map string_bytes (take (length c.args.words.now - 4) (drop 4 c.args.words.now))))
    c.as_str.ensures.value)
