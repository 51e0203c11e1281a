use Rattle.cell_laws.specs.Lifts.{is_higher}
use Rattle.cell_laws.specs.Lists.{count}
use Rattle.tetra_store.specs.Links.{links_of}
use Rattle.tetra_store.specs.Store.{vertices_of}
use Rattle.tetra_walk.specs.Goals.{place_of}
use Rattle.tetra_store.specs.Stored.{live_of}
use Rattle.tetra_walk.proofs.Ends.{IsReached}
use Rattle.tetra_walk.proofs.walk.walk_to.Given as goal

abbrev pub invariant-loop-at : goal.invariant-loop-at
invariant-loop-at l = IsReached l.t (place_of l.goal) l.at l.vertices l.entered

abbrev pub decreases-loop-at : goal.decreases-loop-at
decreases-loop-at l =
    count (λ z. is_higher (vertices_of l.t) (place_of l.goal) ((links_of l.t.slots).at l.at) ((links_of l.t.slots).at z))
    (live_of l.t.slots)
