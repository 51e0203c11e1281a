use Rattle.flow_net.specs.Flows.{numbered_of}
use Rattle.flow_net.proofs.Duality.{equal_is_best}
use Rattle.flow_check.proofs.checking.not_least.Goals as goal

pub least_inside-requires : goal.least_inside-requires
least_inside-requires c =
    (equal_is_best (numbered_of c.args.net.now) c.args.flow.now c.args.labels.now c.requires.valid c.requires.admissible c.requires.equal).0
