use Rattle.sweep.proofs.FreshBuilds.{fresh_build_law}
use Rattle.sweep.proofs.laws.a_sweep_is_as_a_fresh_build.Goals as goal

pub returns : goal.returns
returns c = fresh_build_law
