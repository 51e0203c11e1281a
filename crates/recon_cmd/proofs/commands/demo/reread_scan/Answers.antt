use Rattle.std.proofs.Common.{rules}
use Rattle.recon_cmd.proofs.DemoReplies.{generated_fits, printed_is_read}
use Rattle.recon_cmd.proofs.commands.demo.reread_scan.Goals as goal

pub unreachable-requires : goal.unreachable-requires
unreachable-requires c =
    printed_is_read c.in_ok-scan.scan c.deref.result.now c.in-Err.why (search rules) c.in_default.not-NoMemory
    c.in-Err.ensures.read

pub returns-in-Ok-clause-within : goal.returns-in-Ok-clause-within
returns-in-Ok-clause-within c = generated_fits c.args.demo.count c.args.demo.seed c.in_ok-scan.scan c.in_ok-scan.ensures
