use Rattle.std.proofs.Common.{◌≡◌, map, string_bytes}
use Rattle.command_run.specs.Status.{code_of}
use Rattle.command_run.specs.declared.status.Status.{Status}
use Rattle.recon_cmd.specs.Commands.{Outcome, command_of}
use Rattle.recon_cmd.proofs.SweepWordLemmas.{no_form_export, no_form_sweep}
use Rattle.recon_cmd.proofs.whole_run.run.Goals as goal

pub returns : goal.returns
returns g c =
    without_forms
    (c.run_forms.ensures.ran (no_form_export (map string_bytes c.args.words.now)) (no_form_sweep (map string_bytes c.args.words.now)))
  where
    without_forms : {Kept : Type 0}
        → (status : Status) × (c.run_forms.result ≡ code_of status)
        × Outcome (command_of (map string_bytes c.args.words.now)) status (g.H.Host.state c.args.host.now)
        (g.H.Host.state c.run_forms.new.host) × Kept
        → (status : Status) × (c.run_forms.result ≡ code_of status)
        × Outcome (command_of (map string_bytes c.args.words.now)) status (g.H.Host.state c.args.host.now)
        (g.H.Host.state c.run_forms.new.host)
    without_forms (status, code, outcome, kept) = (status, code, outcome)
