use Rattle.std.proofs.Common.{IfSome, List, [], ℕ, refl, subst}
use Rattle.command_run.specs.Steps.{CarriesOut}
use Rattle.command_run.specs.declared.status.Status.TheVariants.{Refused}
use Rattle.recon_cmd.specs.OptionViews.{options_view}
use Rattle.recon_cmd.specs.Steps.{IsReading}
use Rattle.recon_cmd.specs.Sweep.{sweep_asked}
use Rattle.recon_cmd.specs.declared.whole_run.reading.Reading.{Reading}
use Rattle.recon_cmd.proofs.RefusedForms.{surfaces_not_refused}
use Rattle.recon_cmd.proofs.SweepReplies.{none_swept, swept}
use Rattle.recon_cmd.proofs.commands.sweeping.sweep_scan.Goals as goal

pub returns-in-Scan-clause-outcome : goal.returns-in-Scan-clause-outcome
returns-in-Scan-clause-outcome g c =
    swept c.args.limit (sweep_asked c.args.words.now) c.in-Scan.scan c.in-Scan.bytes c.hand_out.result
    (g.H.Host.state c.args.host.now)
    (g.H.Host.state c.read_input.new.host) (g.H.Host.state c.hand_out.new.host) _ _ _
    c.requires.closed c.in-Ok.ensures.only c.in-Ok.ensures.cause
    (subst (λ (reading : Reading).
    IfSome (g.H.Host.state c.args.host.now).told
    (IsReading c.args.limit c.args.words.now.input.now (options_view c.args.words.now.options) reading)) c.in-Scan.is
    c.in-Ok.ensures.read) c.hand_out.ensures.handed

pub returns-in-Scan-clause-refused : goal.returns-in-Scan-clause-refused
returns-in-Scan-clause-refused g c = λ e. absurd (surfaces_not_refused _ _ _ _ _ _ _ c.hand_out.ensures.handed e)

pub returns-in-Refused-clause-outcome : goal.returns-in-Refused-clause-outcome
returns-in-Refused-clause-outcome g c =
    none_swept c.args.limit (sweep_asked c.args.words.now) c.in-Refused.line c.conclude.result (g.H.Host.state c.args.host.now)
    (g.H.Host.state c.read_input.new.host) (g.H.Host.state c.conclude.new.host) _ _ _ c.requires.closed c.in-Ok.ensures.only
    c.in-Ok.ensures.cause
    (subst (λ (reading : Reading).
    IfSome (g.H.Host.state c.args.host.now).told
    (IsReading c.args.limit c.args.words.now.input.now (options_view c.args.words.now.options) reading)) c.in-Refused.is
    c.in-Ok.ensures.read) refl
    (subst (λ (line : List ℕ).
    CarriesOut [] line Refused c.conclude.result (g.H.Host.state c.read_input.new.host) (g.H.Host.state c.conclude.new.host))
    c.as_bytes.ensures c.conclude.ensures)
