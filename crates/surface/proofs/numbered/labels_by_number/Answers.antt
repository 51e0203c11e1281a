-- Labels by the numbers of nodes, as labels by the numbers of cells.
--
-- Behind `node` nodes the list is as long as the numbers of the store, and at the number of each node so far it has that
-- node's label. The next number is below the limit, since its cell is live. It is that of no node before, since no
-- number stands twice: so what was written there stays (away).
use Rattle.std.proofs.Common.{ℕ, ◌≡◌, ◌<◌, ◌∙◌, length, get_or, Bool, List, subst, sym, arith}
use Rattle.std.proofs.lemmas.List.{get_or_default, get_or-set_same, get_or-set_other}
use Rattle.tetra_store.specs.Links.{links_of, IsLive}
use Rattle.surface.proofs.numbered.labels_by_number.Goals as goal

pub index_mut-requires : goal.index_mut-requires
index_mut-requires c = grind (arith, get_or_default, c.requires.ids.live c.loop-node.node c.loop-node-test.true)

pub loop-node-preserved : goal.loop-node-preserved
loop-node-preserved c =
    let ids : List ℕ = c.args.ids.now in
    let flags : List Bool = c.as_slice-flags.result.now in
    let inside : List Bool = c.loop-node.inside.items in
    let node : ℕ = c.loop-node.node in
    let x : ℕ = c.index-ids-node.result in
    let l : node < length ids = c.loop-node-test.true in
    let is : get_or ids node 0 ≡ x = get_or_default ids node 0 x l ∙ sym c.index-ids-node.is in
    let below =
    c.number_limit-limit.ensures.above x (subst (IsLive (links_of c.args.t.now.slots)) is (c.requires.ids.live node l)) in
    let at : get_or ids node 0 ≡ c.number.result = is ∙ sym c.number.ensures in
    let fits : c.number.result < length inside = grind arith in
    grind (arith, get_or-set_same, get_or-set_other)

pub returns-clause-fits : goal.returns-clause-fits
returns-clause-fits c id h = grind (arith, c.number_limit-limit.ensures.above id h)
