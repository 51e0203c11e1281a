-- Each edge is joined with the mate that the table of hints tells.
--
-- The table is asked for the reverse of an edge, and what it answers is in the list and is the reverse (hinted): so it
-- is the edge to join with, and behind n edges those of the first n are joined (AreJoined_join). Joining writes
-- neighbors alone, so the cells of all edges stay live.
use Rattle.std.proofs.Common.{◌<◌, length, ◌∙◌, Option, subst, arith}
use Rattle.std.specs.Prelude.{IfSome}
use Rattle.std.specs.List.{Contains}
use Rattle.std.proofs.lemmas.List.{get_or_default}
use Rattle.std.proofs.lemmas.List.Elements.{Contains-get_or}
use Rattle.tetra_store.specs.Links.{links_of}
use Rattle.tetra_store.specs.declared.edge.Edge.{Edge}
use Rattle.tetra_store.specs.Edges.{edge_at, no_edge, IsReverse}
use Rattle.tetra_store.proofs.Joins.{AreJoined_join}
use Rattle.tetra_store.proofs.joining.join_hinted.Goals as goal

pub join_side-requires-clause-live : goal.join_side-requires-clause-live
join_side-requires-clause-live c =
    let lt : c.loop-at.at < length c.args.edges.now = omega arith in
    let x = edge_at c.args.edges.now c.loop-at.at in
    c.loop-at.invariant.joined.live x.cell ∙ c.requires.live x (Contains-get_or c.args.edges.now c.loop-at.at no_edge lt)

pub join_side-requires-clause-side : goal.join_side-requires-clause-side
join_side-requires-clause-side c =
    let lt : c.loop-at.at < length c.args.edges.now = omega arith in
    c.requires.side_in (edge_at c.args.edges.now c.loop-at.at) (Contains-get_or c.args.edges.now c.loop-at.at no_edge lt)

pub join_side-requires-clause-small : goal.join_side-requires-clause-small
join_side-requires-clause-small c =
    c.requires.small c.in-Some.mate
    (subst (λ (o : Option Edge). IfSome o (λ mate. Contains c.args.edges.now mate)) c.in-Some.is c.hinted.ensures.listed)

pub loop-at-preserved : goal.loop-at-preserved
loop-at-preserved c =
    let edges = c.args.edges.now in
    let n = c.loop-at.at in
    let lt : n < length edges = omega arith in
    let x = edge_at edges n in
    let r = c.in-Some.mate in
    let listed : Contains edges r =
    subst (λ (o : Option Edge). IfSome o (λ mate. Contains edges mate)) c.in-Some.is c.hinted.ensures.listed in
    let reverse : IsReverse x r =
    subst (λ (o : Option Edge). IfSome o (λ mate. IsReverse x mate)) c.in-Some.is c.hinted.ensures.reverse in
    record {
      joined =
          AreJoined_join (links_of c.args.cells.now.slots) (links_of c.loop-at.cells.slots)
          (links_of c.join_side.new.cells.slots) edges n x r c.loop-at.invariant.joined c.requires lt
          (get_or_default edges n x no_edge lt) listed reverse c.join_side.ensures.written;
      capacity = c.join_side.ensures.capacity ∙ c.loop-at.invariant.capacity;
      len = c.join_side.ensures.len ∙ c.loop-at.invariant.len;
    }
