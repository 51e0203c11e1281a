use Rattle.std.proofs.Common.{refl, sym, ap, ◌∙◌, ℕ, List, string_bytes}
use Rattle.std.specs.Option.{option_map}
use Rattle.recon_cmd.specs.OptionViews.{options_view}
use Rattle.recon_cmd.specs.Commands.{asked_by, upgrade_of}
use Rattle.recon_cmd.specs.Words.{named_view}
use Rattle.recon_cmd.proofs.WordLemmas.{four_words}
use Rattle.recon_cmd.proofs.commands.check.upgrade_command.Goals as goal

pub returns : goal.returns
returns c = (
  ap (λ (names : List (List ℕ)). upgrade_of names (options_view c.in-Some.field-0.options))
      (four_words string_bytes c.in-Some.field-0.names.now c.input-item.result c.mesh-item.result c.cert-item.result
      c.output-item.result _ _ _ _ c.in-len4.len_at_least c.in-len4.len_below c.input-item.is c.mesh-item.is c.cert-item.is
      c.output-item.is c.as_str.ensures.value c.as_str-2.ensures.value c.as_str-3.ensures.value c.as_str-4.ensures.value)
      ∙ ap (asked_by upgrade_of) (ap (option_map named_view) (sym c.in-Some.is) ∙ c.named.ensures.is),
  refl,
  refl,
)
