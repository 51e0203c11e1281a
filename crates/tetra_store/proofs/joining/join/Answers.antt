use Rattle.std.proofs.lemmas.List.Sorted.{IsPermutation-refl}
use Rattle.tetra_store.specs.Links.{links_of}
use Rattle.tetra_store.proofs.Hinted.{can_again, AreJoined_again}
use Rattle.tetra_store.proofs.joining.join.Goals as goal

pub join_hinted-requires : goal.join_hinted-requires
join_hinted-requires c = c.requires c.args.edges.now (IsPermutation-refl c.args.edges.now)

pub join_sorted-requires-clause-can : goal.join_sorted-requires-clause-can
join_sorted-requires-clause-can c =
    can_again (links_of c.args.cells.now.slots) (links_of c.join_hinted.new.cells.slots) c.args.edges.now c.sort.new.edges
    c.join_hinted.ensures.some (c.requires c.sort.new.edges c.sort.ensures.moved)

pub returns-clause-joined : goal.returns-clause-joined
returns-clause-joined c =
    AreJoined_again (links_of c.args.cells.now.slots) (links_of c.join_hinted.new.cells.slots)
    (links_of c.join_sorted.new.cells.slots) c.args.edges.now c.sort.new.edges c.join_hinted.ensures.some c.sort.ensures.moved
    c.join_sorted.ensures.joined
