-- New cells over a fan, in three steps: put in, named from outside, joined with each other.
--
-- The first step leaves all other cells as they were, so what the second asks of the cells across still holds
-- (put_facing). The edges that are pushed are those of the fan, so they can be joined in whatever order they are
-- (fan_joins), which is what join asks of each order that they may be brought into. The three steps together are IsGrown
-- (all_grown).
use Rattle.std.proofs.Common.{ℕ, List, length, subst}
use Rattle.std.specs.List.Sorted.{IsPermutation}
use Rattle.tetra_store.specs.declared.edge.Edge.{Edge}
use Rattle.tetra_store.specs.Links.{links_of}
use Rattle.tetra_store.specs.Steps.{AreNamed, AreFanEdges}
use Rattle.tetra_store.proofs.Grown.{put_facing, fan_joins, all_grown}
use Rattle.tetra_store.proofs.growth.grow.Goals as goal

pub name_outer-requires-clause-facing : goal.name_outer-requires-clause-facing
name_outer-requires-clause-facing c =
    put_facing c.args.cells.now.slots c.put_all.new.cells.slots c.args.fan.now c.args.p c.put_all.new.ids.items
    c.put_all.ensures.put c.requires.can.facing

pub join-requires : goal.join-requires
join-requires c = λ xs moved.
    let edges = c.push_edges.new.edges.items in
    let ids = c.put_all.new.ids.items in
    let fan = c.args.fan.now in
    let named : AreNamed (links_of c.put_all.new.cells.slots) (links_of c.name_outer.new.cells.slots) fan ids (length fan) =
    subst (λ (z : List ℕ).
    AreNamed (links_of c.put_all.new.cells.slots) (links_of c.name_outer.new.cells.slots) fan z (length fan))
    c.deref.ensures.value c.name_outer.ensures.named in
    let fe : AreFanEdges fan ids edges (length fan) =
    subst (λ (z : List ℕ). AreFanEdges fan z edges (length fan)) c.deref-2.ensures.value c.push_edges.ensures.edges in
    fan_joins c.put_all.new.cells.slots c.args.cells.now.slots (links_of c.name_outer.new.cells.slots) fan c.args.p ids edges xs
    c.put_all.ensures.put c.put_all.ensures.count named fe
    (subst (λ (z : List Edge). IsPermutation z xs) c.deref_mut.ensures.value moved) c.requires.can

pub returns-clause-grown : goal.returns-clause-grown
returns-clause-grown c =
    let edges = c.push_edges.new.edges.items in
    let ids = c.put_all.new.ids.items in
    let fan = c.args.fan.now in
    let named : AreNamed (links_of c.put_all.new.cells.slots) (links_of c.name_outer.new.cells.slots) fan ids (length fan) =
    subst (λ (z : List ℕ).
    AreNamed (links_of c.put_all.new.cells.slots) (links_of c.name_outer.new.cells.slots) fan z (length fan))
    c.deref.ensures.value c.name_outer.ensures.named in
    let fe : AreFanEdges fan ids edges (length fan) =
    subst (λ (z : List ℕ). AreFanEdges fan z edges (length fan)) c.deref-2.ensures.value c.push_edges.ensures.edges in
    let moved : IsPermutation edges c.join.new.edges =
    subst (λ (z : List Edge). IsPermutation z c.join.new.edges) c.deref_mut.ensures.value c.join.ensures.moved in
    all_grown c.args.cells.now.slots c.put_all.new.cells.slots (links_of c.name_outer.new.cells.slots)
    (links_of c.join.new.cells.slots) fan c.args.p ids edges c.join.new.edges
    c.put_all.ensures.put c.put_all.ensures.count named fe moved c.join.ensures.joined c.requires.can
