use Rattle.sight.proofs.Steps.{sight}
use Rattle.sight.proofs.along.begin.Goals as goal

pub returns-clause-sight : goal.returns-clause-sight
returns-clause-sight c =
    let r = c.requires in
    sight c.args.t.now c.args.v c.args.s c.toward-at.result
    (record { store = c.facts.ensures; delaunay = r.delaunay; inserted = r.inserted; data_point = r.data_point })
    c.toward-at.ensures.live c.toward-at.ensures.is
