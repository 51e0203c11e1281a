use Rattle.std.proofs.Common.{sym}
use Rattle.recon_cmd.proofs.WordLemmas.{no_command}
use Rattle.recon_cmd.proofs.commands.understand.Goals as goal

pub returns-in_default-as_str-clause-command : goal.returns-in_default-as_str-clause-command
returns-in_default-as_str-clause-command c =
    sym (no_command c.args.words.now c.command-item.result c.as_str.result.now c.in-len1-up.len_at_least c.command-item.is
    c.as_str.ensures.value c.in_default-as_str.not-cells c.in_default-as_str.not-build
    c.in_default-as_str.not-check c.in_default-as_str.not-upgrade c.in_default-as_str.not-slice
    c.in_default-as_str.not-ask c.in_default-as_str.not-demo)
