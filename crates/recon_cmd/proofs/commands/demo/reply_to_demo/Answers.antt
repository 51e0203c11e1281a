use Rattle.std.proofs.Common.{rules, ℕ, List, Some, refl, ap, ◌∙◌}
use Rattle.recon_cmd.specs.Options.{default_options}
use Rattle.recon_cmd.specs.Stamps.{stamp_for}
use Rattle.recon_cmd.specs.Demo.{demo_line}
use Rattle.recon_cmd.proofs.DemoReplies.{demonstrated}
use Rattle.recon_cmd.proofs.commands.demo.reply_to_demo.Goals as goal

pub returns : goal.returns
returns g c =
    rw (c.new.ensures.items)
    (demonstrated c.args.demo.count c.args.demo.seed c.in_ok-scan.scan _ c.in_ok-solved.solved
    c.in_ok-built.built.items c.in_ok-line.line.items
    c.in_ok-scan.ensures.within c.in_ok-scan.ensures.read refl refl
    c.in_ok-solved.ensures.solution c.in_ok-solved.ensures.valid c.in_ok-solved.ensures.closed c.in_ok-solved.ensures.well_formed
    (c.in_ok-solved.ensures.stamp
    ∙ ap Some (c.stamp_of-stamp.ensures ∙ ap (λ (text : List ℕ). stamp_for default_options text) c.in_ok-scan.ensures.text))
    (search rules) (c.in_ok-line.ensures ∙ ap (demo_line c.args.demo.count c.args.demo.seed) c.deref.ensures.value))
