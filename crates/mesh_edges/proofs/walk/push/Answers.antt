use Rattle.std.proofs.Common.{ℕ, ◌≡◌, ◌+◌, ◌^◌, ◌<◌, ◌++◌, [], ◌∷◌, true, Bool, List, length, get_or, set, sym, subst, ap, arith, ◌∙◌}
use Rattle.std.specs.List.{All}
use Rattle.mesh.specs.Meshes.{IsFace}
use Rattle.mesh_edges.specs.HalfEdges.{behind}
use Rattle.mesh_edges.specs.Walks.{IsWalkState}
use Rattle.mesh_edges.proofs.Trails.{push_walk, push_less, label_below}
use Rattle.mesh_edges.proofs.Corners.{behind_in}
use Rattle.mesh_edges.proofs.walk.push.Goals as goal

pub overflow_cast-len : goal.overflow_cast-len
overflow_cast-len c = let n = c.args.walk.now.trail.ok.0 in omega (arith, c.requires.walk.room, c.requires.few, c.len.ensures, n)

pub returns-clause-less : goal.returns-clause-less
returns-clause-less c =
    let w = c.args.walk.now in
    push_less (2 ^ 32) c.args.faces.now c.requires.each w.twins.items w.labels.items w.seen.items w.trail.items w.visited.items
    c.requires.walk c.args.next c.requires.next

-- the label at the other end has a place
place : (faces : List (List ℕ)) (twins labels seen trail : List ℕ) (visited : List Bool) (x : ℕ) → All (IsFace (2 ^ 32)) faces
    → IsWalkState faces twins labels seen trail visited → x < length twins → get_or labels (behind x) 0 < length seen
place faces twins labels seen trail visited x each w l =
    omega (
      arith,
      label_below labels w.settled (behind x)
          (omega (arith, behind_in (2 ^ 32) faces each twins w.paired x l, w.labelled.count)),
      w.labelled.count,
      w.places,
    )

pub index_mut-requires : goal.index_mut-requires
index_mut-requires c =
    let w = c.args.walk.now in
    let n = w.seen.ok.0 in
    let label : c.far_label-label.result ≡ get_or w.labels.items (behind c.args.next) 0 =
    c.far_label-label.ensures ∙ ap (λ (ls : List ℕ). get_or ls (behind c.args.next) 0) c.deref.ensures.value in
    omega (
      arith,
      label,
      place c.args.faces.now w.twins.items w.labels.items w.seen.items w.trail.items w.visited.items c.args.next c.requires.each
          c.requires.walk c.requires.next.within,
      n,
    )

pub returns-clause-walk : goal.returns-clause-walk
returns-clause-walk c =
    let w = c.args.walk.now in
    let x = c.args.next in
    let label : c.far_label-label.result ≡ get_or w.labels.items (behind x) 0 =
    c.far_label-label.ensures ∙ ap (λ (ls : List ℕ). get_or ls (behind x) 0) c.deref.ensures.value in
    let count : c.len.result ≡ length w.trail.items = (let n = w.trail.ok.0 in omega (arith, c.len.ensures, n)) in
    let pushed : c.push.new.self.items ≡ w.trail.items ++ x ∷ [] = c.in_ok-push.ensures.items in
    let seen : set w.seen.items c.far_label-label.result c.len.result ≡ set w.seen.items (get_or w.labels.items (behind x) 0) (length w.trail.items) =
    ap (λ (i : ℕ). set w.seen.items i c.len.result) label ∙ ap (λ (k : ℕ). set w.seen.items (get_or w.labels.items (behind x) 0) k) count in
    subst
    (λ (t : List ℕ).
    IsWalkState c.args.faces.now w.twins.items w.labels.items (set w.seen.items c.far_label-label.result c.len.result) t
    (set w.visited.items x true))
    (sym pushed)
    (subst
    (λ (s : List ℕ). IsWalkState c.args.faces.now w.twins.items w.labels.items s (w.trail.items ++ x ∷ []) (set w.visited.items x true))
    (sym seen)
    (push_walk (2 ^ 32) c.args.faces.now c.requires.each w.twins.items w.labels.items w.seen.items w.trail.items w.visited.items
    c.requires.walk x c.requires.next
    (place c.args.faces.now w.twins.items w.labels.items w.seen.items w.trail.items w.visited.items x c.requires.each c.requires.walk
    c.requires.next.within)))
