use Rattle.std.proofs.Common.{arith, inl, inr, subst}
use Rattle.triangles.specs.Hulls.{AreOff}
use Rattle.triangles.specs.Trees.{hull_in, nowhere}
use Rattle.triangles.specs.declared.hull.Hull.{Hull}
use Rattle.std.proofs.lemmas.List.{get_or_read}
use Rattle.triangles.proofs.Growth.{off_within}
use Rattle.triangles.proofs.Overs.{node_within, left_bounds, right_bounds, over_one_of}
use Rattle.triangles.proofs.tree.HullTree.+gather.Goals as goal

pub returns-then-not-meets-clause-found : goal.returns-then-not-meets-clause-found
returns-then-not-meets-clause-found t c =
    let off : AreOff (hull_in c.args.self.now.hulls.items c.args.node) c.args.hull =
    let tree = c.args.self.now in
    let in_heap = node_within c.args.node c.args.height tree.leaves c.requires.to in
    subst (λ (g : Hull). AreOff g c.args.hull)
    (get_or_read tree.hulls.items _ _ (omega (arith, in_heap, tree.hulls.ok.0, tree.filled)) c.index.ensures nowhere)
    c.if-not-meets.ensures in
    λ i h insert over. inr (off_within _ h c.args.hull (insert c.args.height c.args.node c.requires.low over) off)

pub gather-requires : goal.gather-requires
gather-requires t c =
    let b = left_bounds c.args.node c.args.height c.args.self.now.leaves c.if-height-eq0.false c.requires.from c.requires.to in
    (omega (arith, c.decreases), (omega (arith, c.requires.low), (b.0, b.1)))

pub gather-requires-2 : goal.gather-requires-2
gather-requires-2 t c =
    let b = right_bounds c.args.node c.args.height c.args.self.now.leaves c.if-height-eq0.false c.requires.from c.requires.to in
    (omega (arith, c.decreases), (omega (arith, c.requires.low), (b.0, b.1)))

pub returns-clause-found : goal.returns-clause-found
returns-clause-found t c = λ i h insert over.
    elim (over_one_of c.args.node c.args.height _ c.if-height-eq0.false over) [
      | inl left ↦ elim (c.in_ok-gather.ensures.found i h insert left) [
        | inl had ↦ inl (c.in_ok-gather-2.ensures.kept i had)
        | inr off ↦ inr off
      ]
      | inr right ↦ c.in_ok-gather-2.ensures.found i h insert right
    ]
