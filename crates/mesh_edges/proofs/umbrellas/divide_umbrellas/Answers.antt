use Rattle.std.proofs.Common.{ℕ, ◌≡◌, ◌+◌, ◌<◌, ◌≤◌, ◌^◌, ◌∙◌, List, length, get_or, sym, subst, ap, arith}
use Rattle.mesh_edges.specs.Umbrellas.{AreDivided}
use Rattle.mesh_edges.proofs.Labels.{named_roots}
use Rattle.mesh_edges.proofs.umbrellas.divide_umbrellas.Goals as goal

pub returns-clause-umbrellas : goal.returns-clause-umbrellas
returns-clause-umbrellas c =
    let w = c.walk_all.new.walk in
    let walk = c.in_ok-walk_all.ensures.walk in
    let labels : c.deref.result.now ≡ w.labels.items = c.deref.ensures.value in
    named_roots (2 ^ 32) c.args.faces.now c.requires.each w.twins.items w.labels.items c.in_ok-roots.roots.items walk.paired
    walk.labelled walk.settled (λ h l. c.in_ok-walk_all.ensures.settled h (omega (arith, walk.labelled.count)))
    (c.in_ok-roots.ensures.count ∙ ap length labels)
    (subst (λ (ls : List ℕ). (h : ℕ) → h < length ls → get_or c.in_ok-roots.roots.items h 0 + length ls ≡ get_or ls h 0) labels
    c.in_ok-roots.ensures.roots)
