use Rattle.std.proofs.Common.{ℕ, ◌≡◌, ◌^◌, ◌+◌, ◌<◌, ◌≤◌, ◌∙◌, below_more, List, length, get_or, sym, subst, ap, arith}
use Rattle.mesh_edges.specs.declared.pairs.Pair.{Pair}
use Rattle.mesh_pieces.specs.Vertices.{IsRoot, HoldsVertex, IsHighest, root_in}
use Rattle.mesh_pieces.proofs.Numbers.{root_at, firsts_rise, numbered_all}
use Rattle.mesh_pieces.proofs.vertices.numbered.Goals as goal

pub loop-i-preserved : goal.loop-i-preserved
loop-i-preserved c =
    let list = c.in_ok-list.list.items in
    let was = c.loop-i.invariant in
    let done = c.in_ok-place.ensures in
    let new = c.place.new.vertices in
    let i = c.loop-i.i in
    let here : c.pair_at.result ≡ root_in list i =
    c.pair_at.ensures ∙ ap (λ (ps : List Pair). root_in ps i) c.deref.ensures.value in
    record {
      placed = done.placed;
      all =
          below_more (λ j. HoldsVertex new.numbers.items new.holders.items (root_in list j).second) i
          (λ j l. done.kept (root_in list j).second (was.all j l))
          (subst (λ (p : Pair). HoldsVertex new.numbers.items new.holders.items p.second) here done.here);
      top = λ j l m w k.
          let rise =
          firsts_rise list c.in_ok-list.ensures.sorted
          (λ g h. let r = root_at c.args.faces.now c.args.roots.now (length c.args.roots.now) list c.in_ok-list.ensures.roots g h in
          omega (arith, r.within, c.requires.few))
          i j (omega arith) m in
          omega (arith, done.top w k, ap (λ (p : Pair). p.first) here, rise);
      few = omega (arith, done.more, was.few);
    }

pub returns : goal.returns
returns c =
    let list = c.in_ok-list.list.items in
    let was = c.loop-i.invariant in
    let v = c.loop-i.vertices in
    let n = c.in_ok-list.list.ok.0 in
    let end : c.loop-i.i ≡ length list = omega (arith, c.loop-i-test.false, c.loop-i.auto.i-end, c.len-i-end.ensures, n) in
    numbered_all c.args.faces.now c.args.roots.now list v.numbers.items v.origin.items v.holders.items c.in_ok-list.ensures.roots
    was.placed (λ j l. was.all j (omega arith)) (omega (arith, was.few, end))
