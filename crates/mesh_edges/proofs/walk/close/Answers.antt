use Rattle.std.proofs.Common.{ℕ, ◌≡◌, ◌^◌, ◌<◌, ◌∙◌, List, length, get_or, sym, arith}
use Rattle.std.proofs.lemmas.List.{get_or_default}
use Rattle.mesh_edges.proofs.Trails.{closes, cut_step}
use Rattle.mesh_edges.proofs.walk.close.Goals as goal

pub cut-requires-clause-closing : goal.cut-requires-clause-closing
cut-requires-clause-closing c =
    let w = c.args.walk.now in
    closes (2 ^ 32) c.args.faces.now c.requires.each w.twins.items w.labels.items w.seen.items w.trail.items w.visited.items
    c.requires.walk c.args.from c.requires.below c.args.next c.requires.next c.requires.same
    (sym (c.index.ensures ∙ get_or_default w.trail.items c.args.from c.index.result.now 0 c.requires.below) ∙ c.if-index-next.true)

pub returns-then-index-next : goal.returns-then-index-next
returns-then-index-next c =
    let w = c.args.walk.now in
    let new = c.cut.new.walk in
    record {
      step =
          cut_step c.args.faces.now w.trail.items w.labels.items w.visited.items c.args.from new.twins.items new.labels.items
          new.seen.items new.trail.items new.visited.items c.requires.below c.cut.ensures.walk c.cut.ensures.relabelled.count
          c.cut.ensures.stay c.cut.ensures.kept c.cut.ensures.trail c.cut.ensures.visited;
    }
