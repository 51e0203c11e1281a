use Rattle.mesh_simplify.proofs.Meetings.{met_before}
use Rattle.mesh_simplify.proofs.laws.simplifying_makes_nothing_meet.Goals as goal

pub returns : goal.returns
returns c = met_before
