-- Words that are no command are refused as such at any limit.
use Rattle.std.proofs.Common.{Option, refl, subst}
use Rattle.recon_cmd.specs.Commands.{Asked, OutcomeWithin}
use Rattle.recon_cmd.proofs.whole_run.run_forms_within.Goals as goal

pub returns-in-None-clause-ran : goal.returns-in-None-clause-ran
returns-in-None-clause-ran g c = λ exports sweeps. (
  c.refuse_words.result,
  c.code-in-None.ensures,
  subst (λ (asked : Option Asked).
      OutcomeWithin c.args.limit asked c.refuse_words.result (g.H.Host.state c.args.host.now)
      (g.H.Host.state c.refuse_words.new.host)) c.in-None.ensures.command (c.refuse_words.ensures c.args.limit),
  refl,
)
