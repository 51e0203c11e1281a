use Rattle.std.proofs.Common.{ℕ, ◌≡◌, ◌+◌, ◌<◌, ◌∙◌, Bool, true, false, List, length, get_or, sym, subst, ap, arith}
use Rattle.mesh_edges.specs.Umbrellas.{AreFanLabels}
use Rattle.mesh_edges.proofs.Labels.{first_walk, no_true}
use Rattle.mesh_edges.proofs.umbrellas.new_walk.Goals as goal

pub returns-clause-walk : goal.returns-clause-walk
returns-clause-walk c =
    let twins = c.args.twins.items in
    let n = c.args.twins.ok.0 in
    let s = c.in_ok-seen.seen.ok.0 in
    let v = c.in_ok-visited.visited.ok.0 in
    let t = c.new.result.ok.0 in
    first_walk c.args.faces.now twins c.in_ok-labels.labels.items c.in_ok-seen.seen.items c.new.result.items
    c.in_ok-visited.visited.items c.requires.paired
    (subst (λ (ts : List ℕ). AreFanLabels c.args.faces.now ts c.in_ok-labels.labels.items) c.deref.ensures.value
    c.in_ok-labels.ensures.labels)
    (subst (λ (ts : List ℕ). (h : ℕ) → h < length ts → get_or c.in_ok-labels.labels.items h 0 < length ts) c.deref.ensures.value
    c.in_ok-labels.ensures.loose)
    (omega (arith, c.in_ok-seen.ensures.len, c.len.ensures, c.len-2.ensures, s, n))
    (omega (arith, c.new.ensures.len, t))
    (omega (arith, c.in_ok-visited.ensures.len, c.len-3.ensures, v, n))
    (λ h e.
    no_true c.len-3.result h
    (ap (λ (xs : List Bool). get_or xs h false) (sym (c.in_ok-visited.ensures.items_if_clones_equal (λ y q. q))) ∙ e))
