-- The twins are written through a borrowed slice, so `read` says what they are afterwards.
use Rattle.std.proofs.Common.{ℕ, ◌≡◌, ◌≢◌, ◌+◌, ◌^◌, ◌<◌, ◌≤◌, ◌++◌, ◌∙◌, List, length, get_or, take, drop, sym, subst, ap, arith}
use Rattle.std.proofs.lemmas.List.{take_at, get_or-take, get_or_default, length-take-le}
use Rattle.mesh_edges.specs.HalfEdges.{around}
use Rattle.mesh_edges.specs.Walks.{IsExchanged, IsRelabelled, IsClosing, MayFollow}
use Rattle.mesh_edges.proofs.Trails.{x_in, not_twins, closing, next_after, cut_step, pushed_step, steps_on}
use Rattle.mesh_edges.proofs.walk.divide.Goals as goal

-- an element that was read, at another default
at_index : (xs : List ℕ) (i x : ℕ) → i < length xs → x ≡ get_or xs i x → x ≡ get_or xs i 0
at_index xs i x l e = e ∙ get_or_default xs i x 0 l

pub exchange-requires-clause-other : goal.exchange-requires-clause-other
exchange-requires-clause-other c =
    let w = c.args.walk.now in
    let inside =
    x_in (2 ^ 32) c.args.faces.now c.requires.each w.twins.items w.labels.items w.seen.items w.trail.items w.visited.items
    c.requires.walk c.args.from c.requires.below c.args.next c.requires.next c.requires.same in
    omega (arith, ap length c.deref_mut.ensures.value, inside)

pub exchange-requires-clause-apart : goal.exchange-requires-clause-apart
exchange-requires-clause-apart c = λ e.
    let w = c.args.walk.now in
    let first = at_index w.trail.items c.args.from c.index-first.result.now c.requires.below c.index-first.ensures in
    not_twins (2 ^ 32) c.args.faces.now c.requires.each w.twins.items w.labels.items w.seen.items w.trail.items w.visited.items
    c.requires.walk c.args.from c.requires.below c.args.next c.requires.next c.requires.same
    (ap (λ (h : ℕ). get_or w.twins.items h 0) (sym first)
    ∙ (ap (λ (t : List ℕ). get_or t c.index-first.result.now 0) (sym c.deref_mut.ensures.value) ∙ e))

pub cut-requires-clause-closing : goal.cut-requires-clause-closing
cut-requires-clause-closing c =
    let w = c.args.walk.now in
    let new = c.exchange.new.twins in
    let first = at_index w.trail.items c.args.from c.index-first.result.now c.requires.below c.index-first.ensures in
    let ex : IsExchanged (get_or w.trail.items c.args.from 0) c.args.next w.twins.items new =
    subst (λ (h : ℕ). IsExchanged h c.args.next w.twins.items new) first
    (subst (λ (t : List ℕ). IsExchanged c.index-first.result.now c.args.next t new) c.deref_mut.ensures.value c.exchange.ensures) in
    let read : new ≡ take w.twins.len (new ++ drop (length new) w.twins.items) =
    sym (take_at new (drop (length new) w.twins.items) w.twins.len (let n = w.twins.ok.0 in omega (arith, ex.count, n))) in
    subst (λ (t : List ℕ). IsClosing c.args.faces.now t w.labels.items w.seen.items w.trail.items w.visited.items c.args.from) read
    (closing (2 ^ 32) c.args.faces.now c.requires.each w.twins.items w.labels.items w.seen.items w.trail.items w.visited.items
    c.requires.walk c.args.from c.requires.below c.args.next c.requires.next c.requires.same
    (λ e. c.requires.differ e) new ex)

pub push-requires-clause-next : goal.push-requires-clause-next
push-requires-clause-next c =
    let w = c.args.walk.now in
    let new = c.exchange.new.twins in
    let first = at_index w.trail.items c.args.from c.index-first.result.now c.requires.below c.index-first.ensures in
    let ex : IsExchanged (get_or w.trail.items c.args.from 0) c.args.next w.twins.items new =
    subst (λ (h : ℕ). IsExchanged h c.args.next w.twins.items new) first
    (subst (λ (t : List ℕ). IsExchanged c.index-first.result.now c.args.next t new) c.deref_mut.ensures.value c.exchange.ensures) in
    let read : new ≡ take w.twins.len (new ++ drop (length new) w.twins.items) =
    sym (take_at new (drop (length new) w.twins.items) w.twins.len (let n = w.twins.ok.0 in omega (arith, ex.count, n))) in
    subst (λ (t : List ℕ). MayFollow t c.cut.new.walk.labels.items c.cut.new.walk.trail.items c.args.next)
    (read ∙ sym c.cut.ensures.twins)
    (next_after (2 ^ 32) c.args.faces.now c.requires.each w.twins.items w.labels.items w.seen.items w.trail.items w.visited.items
    c.requires.walk c.args.from c.requires.below c.args.next c.requires.next c.requires.same
    (λ e. c.requires.differ e) new ex c.cut.new.walk.labels.items c.cut.ensures.relabelled c.cut.new.walk.trail.items
    (ap length c.cut.ensures.trail ∙ length-take-le c.args.from w.trail.items (let b = c.requires.below in omega arith))
    (λ i l. ap (λ (t : List ℕ). get_or t i 0) c.cut.ensures.trail ∙ get_or-take c.args.from w.trail.items i 0 l))

pub returns : goal.returns
returns c =
    let w = c.args.walk.now in
    let mid = c.cut.new.walk in
    let new = c.push.new.walk in
    let p = c.in_ok-push.ensures in
    record {
      step = steps_on c.args.faces.now w.trail.items w.labels.items w.visited.items mid.twins.items mid.labels.items mid.seen.items
          mid.trail.items mid.visited.items new.twins.items new.labels.items new.seen.items new.trail.items new.visited.items
          (cut_step c.args.faces.now w.trail.items w.labels.items w.visited.items c.args.from mid.twins.items mid.labels.items
          mid.seen.items mid.trail.items mid.visited.items c.requires.below c.cut.ensures.walk c.cut.ensures.relabelled.count
          c.cut.ensures.stay c.cut.ensures.kept c.cut.ensures.trail c.cut.ensures.visited)
          (pushed_step c.args.faces.now mid.trail.items mid.labels.items mid.visited.items c.args.next new.twins.items new.labels.items
          new.seen.items new.trail.items new.visited.items p.walk p.labels p.trail p.less);
    }
