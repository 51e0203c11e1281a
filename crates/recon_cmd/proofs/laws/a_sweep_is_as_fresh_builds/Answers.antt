use Rattle.recon_cmd.proofs.SweepBuilds.{entries_are_built}
use Rattle.recon_cmd.proofs.laws.a_sweep_is_as_fresh_builds.Goals as goal

pub returns : goal.returns
returns c = entries_are_built
