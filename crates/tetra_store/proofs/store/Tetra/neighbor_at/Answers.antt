use Rattle.std.proofs.Common.{◌≡◌, rules}
use Rattle.tetra_store.specs.Links.{links_of}
use Rattle.tetra_store.specs.Store.{vertices_of}
use Rattle.tetra_store.proofs.Observed.{neighbor_live, store_now}
use Rattle.tetra_store.proofs.store.Tetra.neighbor_at.Goals as goal

pub returns-in-Some-clause-live : goal.returns-in-Some-clause-live
returns-in-Some-clause-live c =
    let s = store_now _ c.args.self.now c.self.view_is c.self.invariant in
    let value : c.next.result ≡ (links_of c.args.self.now.slots).next c.args.number c.args.side = search rules in
    neighbor_live (vertices_of c.args.self.now) c.args.self.now.slots c.args.number c.args.side s.linked c.requires
    c.next.result value
