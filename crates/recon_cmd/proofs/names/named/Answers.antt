use Rattle.std.proofs.Common.{sym, ap, ◌∙◌, arith, None, Some, string_bytes}
use Rattle.std.specs.Option.{option_map}
use Rattle.recon_cmd.specs.OptionViews.{options_view}
use Rattle.recon_cmd.specs.Words.{named_view}
use Rattle.recon_cmd.proofs.WordLemmas.{are_named, not_named}
use Rattle.recon_cmd.proofs.names.named.Goals as goal

pub returns-then-not-are_names-clause-is : goal.returns-then-not-are_names-clause-is
returns-then-not-are_names-clause-is c =
    not_named string_bytes c.args.count c.args.keys.now c.args.words.now (omega (arith, c.if-words-count.false))
    (sym c.are_names.ensures ∙ c.if-not-are_names.true)

pub returns-in_err-options-clause-is : goal.returns-in_err-options-clause-is
returns-in_err-options-clause-is c =
    ap (option_map named_view) c.from_residual.ensures
    ∙ are_named string_bytes c.args.count c.args.keys.now c.args.words.now (omega (arith, c.if-words-count.false))
    (sym c.are_names.ensures ∙ c.if-not-are_names.false) None
    (ap (option_map options_view) (sym c.in_err-options.was) ∙ c.understand_options.ensures)

pub returns-clause-is : goal.returns-clause-is
returns-clause-is c =
    are_named string_bytes c.args.count c.args.keys.now c.args.words.now (omega (arith, c.if-words-count.false))
    (sym c.are_names.ensures ∙ c.if-not-are_names.false) (Some (options_view c.in_ok-options.options))
    (ap (option_map options_view) (sym c.in_ok-options.was) ∙ c.understand_options.ensures)
