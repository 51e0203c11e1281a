-- The labels are written through a borrowed slice, so `read` first says what they are.
use Rattle.std.proofs.Common.{ℕ, ◌≡◌, ◌+◌, ◌^◌, ◌<◌, ◌≤◌, ◌++◌, ◌⊎◌, ◌∙◌, List, length, get_or, take, drop, sym, subst, ap, arith}
use Rattle.std.proofs.lemmas.List.{take_at, get_or-take, get_or_default, length-take-le}
use Rattle.mesh_edges.specs.Walks.{IsRelabelled, IsWalkState, IsOn, StaySettled}
use Rattle.mesh_edges.proofs.Trails.{cut_walk, cut_on, cut_stays}
use Rattle.mesh_edges.proofs.walk.cut.Goals as goal

count : (c : goal.After-truncate) → length c.truncate.new.self.items ≡ c.args.from
count c =
    ap length c.truncate.ensures.items
    ∙ length-take-le c.args.from c.args.walk.now.trail.items (let b = c.requires.closing.below in omega arith)

same : (c : goal.After-truncate) → (i : ℕ) → i < c.args.from
    → get_or c.truncate.new.self.items i 0 ≡ get_or c.args.walk.now.trail.items i 0
same c i l =
    ap (λ (xs : List ℕ). get_or xs i 0) c.truncate.ensures.items ∙ get_or-take c.args.from c.args.walk.now.trail.items i 0 l

label : (c : goal.After-truncate)
    → c.len.result + c.index.result.now ≡ length c.args.walk.now.labels.items + get_or c.args.walk.now.trail.items c.args.from 0
label c =
    let n = c.args.walk.now.labels.ok.0 in
    let d =
    get_or_default c.args.walk.now.trail.items c.args.from c.index.result.now 0 (let b = c.requires.closing.below in omega arith) in
    omega (arith, c.len.ensures, c.index.ensures, d, n)

relabelled : (c : goal.After-truncate)
    → IsRelabelled c.args.from (length c.args.walk.now.trail.items) c.args.walk.now.trail.items
    (length c.args.walk.now.labels.items + get_or c.args.walk.now.trail.items c.args.from 0) c.args.walk.now.labels.items
    c.relabel.new.labels
relabelled c =
    let new = c.relabel.new.labels in
    let from = c.args.from in
    let trail = c.args.walk.now.trail.items in
    subst (λ (x : ℕ). IsRelabelled from (length trail) trail x c.args.walk.now.labels.items new) (label c)
    (subst
    (λ (t : List ℕ). IsRelabelled from (length t) t (c.len.result + c.index.result.now) c.args.walk.now.labels.items new)
    c.deref.ensures.value
    (subst
    (λ (ls : List ℕ).
    IsRelabelled from (length c.deref.result.now) c.deref.result.now (c.len.result + c.index.result.now) ls new)
    c.deref_mut.ensures.value c.relabel.ensures))

read : (c : goal.After-truncate)
    → c.relabel.new.labels
    ≡ take c.args.walk.now.labels.len
    (c.relabel.new.labels ++ drop (length c.relabel.new.labels) c.args.walk.now.labels.items)
read c =
    sym (take_at c.relabel.new.labels (drop (length c.relabel.new.labels) c.args.walk.now.labels.items) c.args.walk.now.labels.len
    (let n = c.args.walk.now.labels.ok.0 in let r = relabelled c in omega (arith, r.count, n)))

pub returns-clause-walk : goal.returns-clause-walk
returns-clause-walk c =
    let w = c.args.walk.now in
    subst
    (λ (ls : List ℕ).
    IsWalkState c.args.faces.now w.twins.items ls w.seen.items c.truncate.new.self.items w.visited.items)
    (read c)
    (cut_walk (2 ^ 32) c.args.faces.now c.requires.each w.twins.items w.labels.items w.seen.items w.trail.items w.visited.items
    c.args.from c.requires.closing c.relabel.new.labels (relabelled c) c.truncate.new.self.items (count c) (same c))

pub returns-clause-kept : goal.returns-clause-kept
returns-clause-kept c =
    let w = c.args.walk.now in
    subst
    (λ (ls : List ℕ).
    (h : ℕ) → IsOn w.trail.items 0 (length w.trail.items) h
    → (length ls ≤ get_or ls h 0) ⊎ IsOn c.truncate.new.self.items 0 (length c.truncate.new.self.items) h)
    (read c)
    (cut_on (2 ^ 32) c.args.faces.now c.requires.each w.twins.items w.labels.items w.seen.items w.trail.items w.visited.items
    c.args.from c.requires.closing c.relabel.new.labels (relabelled c) c.truncate.new.self.items (count c) (same c))

pub returns-clause-stay : goal.returns-clause-stay
returns-clause-stay c =
    let w = c.args.walk.now in
    subst (λ (ls : List ℕ). StaySettled w.labels.items ls) (read c)
    (cut_stays (2 ^ 32) c.args.faces.now c.requires.each w.twins.items w.labels.items w.seen.items w.trail.items w.visited.items
    c.args.from c.requires.closing c.relabel.new.labels (relabelled c))
