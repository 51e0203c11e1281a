use Rattle.std.proofs.Common.{ℕ, ◌≡◌, ◌≢◌, ◌+◌, ◌-◌, ◌^◌, ◌<◌, ◌≤◌, ◌∙◌, List, length, get_or, sym, subst, ap, arith}
use Rattle.std.proofs.Common.{Option, None, Some, IfSome, IfNone}
use Rattle.std.specs.List.{All}
use Rattle.std.proofs.lemmas.List.{get_or_default}
use Rattle.mesh.specs.Meshes.{IsFace}
use Rattle.mesh_edges.specs.HalfEdges.{ahead, around, behind, ArePaired}
use Rattle.mesh_edges.specs.Walks.{IsWalkState, MayFollow}
use Rattle.mesh_edges.proofs.Corners.{ahead_in, around_within}
use Rattle.mesh_edges.proofs.Trails.{pushed_step}
use Rattle.mesh_edges.proofs.walk.advance.Goals as goal

-- the last half edge of the trail
top_is : (trail : List ℕ) (len top : ℕ) → len ≡ length trail → 0 < length trail → top ≡ get_or trail (len - 1) top
    → (i : ℕ) → i + 1 ≡ length trail → top ≡ get_or trail i 0
top_is trail len top count some is i e =
    is
    ∙ (get_or_default trail (len - 1) top 0 (omega arith)
    ∙ ap (λ (k : ℕ). get_or trail k 0) (omega arith))

-- the half edge after it around the vertex
next_is : (twins trail : List ℕ) (len top before next : ℕ) → len ≡ length trail → 0 < length trail
    → top ≡ get_or trail (len - 1) top → before ≡ ahead top → before < length twins → next ≡ get_or twins before next
    → (i : ℕ) → i + 1 ≡ length trail → next ≡ around twins (get_or trail i 0)
next_is twins trail len top before next count some is was inside at i e =
    at
    ∙ (get_or_default twins before next 0 inside
    ∙ ap (λ (k : ℕ). get_or twins k 0) (was ∙ ap ahead (top_is trail len top count some is i e)))

-- the half edge before it in its face is there
inside : (faces : List (List ℕ)) (twins labels seen trail : List ℕ) (visited : List _) (len top before : ℕ) → All (IsFace (2 ^ 32)) faces
    → IsWalkState faces twins labels seen trail visited → len ≡ length trail → 0 < length trail → top ≡ get_or trail (len - 1) top
    → before ≡ ahead top → before < length twins
inside faces twins labels seen trail visited len top before each w count some is was =
    let last : top ≡ get_or trail (length trail - 1) 0 = top_is trail len top count some is (length trail - 1) (omega arith) in
    let in' : top < length twins =
    subst (λ (h : ℕ). h < length twins) (sym last) (w.distinct.within (length trail - 1) (omega arith)) in
    subst (λ (h : ℕ). h < length twins) (sym was) (ahead_in (2 ^ 32) faces each twins w.paired top in')

next_in : (faces : List (List ℕ)) (twins labels seen trail : List ℕ) (visited : List _) (x : ℕ) → All (IsFace (2 ^ 32)) faces
    → IsWalkState faces twins labels seen trail visited → 0 < length trail
    → ((i : ℕ) → i + 1 ≡ length trail → x ≡ around twins (get_or trail i 0)) → x < length twins
next_in faces twins labels seen trail visited x each w some is =
    subst (λ (h : ℕ). h < length twins) (sym (is (length trail - 1) (omega arith)))
    (around_within (2 ^ 32) faces each twins w.paired (get_or trail (length trail - 1) 0)
    (w.distinct.within (length trail - 1) (omega arith)))

-- it may be put on the trail, if no half edge there has its label at the other end
fresh_next : (faces : List (List ℕ)) (twins labels seen trail : List ℕ) (visited : List _) (x : ℕ) → All (IsFace (2 ^ 32)) faces
    → IsWalkState faces twins labels seen trail visited → 0 < length trail
    → ((i : ℕ) → i + 1 ≡ length trail → x ≡ around twins (get_or trail i 0))
    → ((i : ℕ) → i < length trail → get_or labels (behind (get_or trail i 0)) 0 ≢ get_or labels (behind x) 0)
    → MayFollow twins labels trail x
fresh_next faces twins labels seen trail visited x each w some is new =
    let at : x ≡ around twins (get_or trail (length trail - 1) 0) = is (length trail - 1) (omega arith) in
    record {
      within = next_in faces twins labels seen trail visited x each w some is;
      loose =
          subst (λ (k : ℕ). k < length twins)
          (sym (ap (λ (h : ℕ). get_or labels h 0) at
          ∙ w.labelled.around (get_or trail (length trail - 1) 0) (w.distinct.within (length trail - 1) (omega arith))))
          (w.distinct.loose (length trail - 1) (omega arith));
      path = is;
      fresh = new;
    }

pub index-next-requires : goal.index-next-requires
index-next-requires c =
    let w = c.args.walk.now in
    let count : c.len.result ≡ length w.trail.items = (let n = w.trail.ok.0 in omega (arith, c.len.ensures, n)) in
    let n = w.twins.ok.0 in
    omega (
      arith,
      inside c.args.faces.now w.twins.items w.labels.items w.seen.items w.trail.items w.visited.items c.len.result
          c.index-top.result.now c.ahead.result c.requires.each c.requires.walk count c.requires.some c.index-top.ensures c.ahead.ensures,
      n,
    )

pub far_label-label-requires-clause-within : goal.far_label-label-requires-clause-within
far_label-label-requires-clause-within c =
    let w = c.args.walk.now in
    let count : c.len.result ≡ length w.trail.items = (let n = w.trail.ok.0 in omega (arith, c.len.ensures, n)) in
    let before =
    inside c.args.faces.now w.twins.items w.labels.items w.seen.items w.trail.items w.visited.items c.len.result
    c.index-top.result.now c.ahead.result c.requires.each c.requires.walk count c.requires.some c.index-top.ensures c.ahead.ensures in
    let next =
    next_in c.args.faces.now w.twins.items w.labels.items w.seen.items w.trail.items w.visited.items c.index-next.result.now
    c.requires.each c.requires.walk c.requires.some
    (next_is w.twins.items w.trail.items c.len.result c.index-top.result.now c.ahead.result c.index-next.result.now count
    c.requires.some c.index-top.ensures c.ahead.ensures before c.index-next.ensures) in
    omega (arith, next, ap length c.deref.ensures.value, c.requires.walk.labelled.count)

pub index_on-requires-clause-within : goal.index_on-requires-clause-within
index_on-requires-clause-within c = λ k d l.
    let w = c.args.walk.now in
    let at : get_or c.deref-4.result.now k d ≡ get_or w.trail.items k 0 =
    get_or_default c.deref-4.result.now k d 0 l ∙ ap (λ (t : List ℕ). get_or t k 0) c.deref-4.ensures.value in
    omega (
      arith,
      at,
      c.requires.walk.distinct.within k (omega (arith, l, ap length c.deref-4.ensures.value)),
      ap length c.deref-2.ensures.value,
      c.requires.walk.labelled.count,
    )

pub push-requires-clause-next : goal.push-requires-clause-next
push-requires-clause-next c =
    let w = c.args.walk.now in
    let x = c.index-next.result.now in
    let count : c.len.result ≡ length w.trail.items = (let n = w.trail.ok.0 in omega (arith, c.len.ensures, n)) in
    let before =
    inside c.args.faces.now w.twins.items w.labels.items w.seen.items w.trail.items w.visited.items c.len.result
    c.index-top.result.now c.ahead.result c.requires.each c.requires.walk count c.requires.some c.index-top.ensures c.ahead.ensures in
    let label : c.far_label-label.result ≡ get_or w.labels.items (behind x) 0 =
    c.far_label-label.ensures ∙ ap (λ (ls : List ℕ). get_or ls (behind x) 0) c.deref.ensures.value in
    fresh_next c.args.faces.now w.twins.items w.labels.items w.seen.items w.trail.items w.visited.items x c.requires.each
    c.requires.walk c.requires.some
    (next_is w.twins.items w.trail.items c.len.result c.index-top.result.now c.ahead.result x count c.requires.some
    c.index-top.ensures c.ahead.ensures before c.index-next.ensures)
    (λ i l e.
    c.in-None.ensures.none i (omega (arith, l, ap length c.deref-4.ensures.value))
    (ap (λ (t : List ℕ). get_or c.deref-2.result.now (behind (get_or t i 0)) 0) c.deref-4.ensures.value
    ∙ (ap (λ (ls : List ℕ). get_or ls (behind (get_or w.trail.items i 0)) 0) c.deref-2.ensures.value ∙ (e ∙ sym label))))

pub close-requires-clause-next : goal.close-requires-clause-next
close-requires-clause-next c =
    let w = c.args.walk.now in
    let count : c.len.result ≡ length w.trail.items = (let n = w.trail.ok.0 in omega (arith, c.len.ensures, n)) in
    let before =
    inside c.args.faces.now w.twins.items w.labels.items w.seen.items w.trail.items w.visited.items c.len.result
    c.index-top.result.now c.ahead.result c.requires.each c.requires.walk count c.requires.some c.index-top.ensures c.ahead.ensures in
    next_is w.twins.items w.trail.items c.len.result c.index-top.result.now c.ahead.result c.index-next.result.now count
    c.requires.some c.index-top.ensures c.ahead.ensures before c.index-next.ensures

pub returns-in_ok-push-in-None : goal.returns-in_ok-push-in-None
returns-in_ok-push-in-None c =
    let w = c.args.walk.now in
    let new = c.push.new.walk in
    let p = c.in_ok-push-in-None.ensures in
    record {
      step =
          pushed_step c.args.faces.now w.trail.items w.labels.items w.visited.items c.index-next.result.now new.twins.items
          new.labels.items new.seen.items new.trail.items new.visited.items p.walk p.labels p.trail p.less;
    }
