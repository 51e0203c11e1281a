use Rattle.recon_cmd.proofs.DemoReplies.{demo_replied}
use Rattle.recon_cmd.proofs.commands.reply_to.Goals as goal

pub returns-in_ok-reply_to_demo-in-Demo-clause-replied : goal.returns-in_ok-reply_to_demo-in-Demo-clause-replied
returns-in_ok-reply_to_demo-in-Demo-clause-replied g c =
    rw (c.in-Demo.is)
    (demo_replied c.args.limit c.in-Demo.demo.count c.in-Demo.demo.seed c.in_ok-reply_to_demo-in-Demo.field-0
    (g.H.Host.state c.args.host.now) c.in_ok-reply_to_demo-in-Demo.ensures)
