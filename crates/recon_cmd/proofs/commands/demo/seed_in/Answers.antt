use Rattle.std.proofs.Common.{rules, arith}
use Rattle.recon_cmd.proofs.SeedLemmas.{no_seed}
use Rattle.recon_cmd.proofs.commands.demo.seed_in.Goals as goal

pub returns-in-Err : goal.returns-in-Err
returns-in-Err c = no_seed c.args.text.now (search rules) (omega arith) (search rules)
