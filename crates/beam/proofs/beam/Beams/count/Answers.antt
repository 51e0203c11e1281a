-- All wait in the scanner's cell (first), and there all that they add is yet to be added (begun).
use Rattle.std.proofs.Common.{◌≡◌, ◌∙◌, arith, ap, List, [], ◌∷◌, ◌++◌}
use Rattle.std.proofs.lemmas.List.Elements.{All-nil, All-cons, All-same, All-weaker}
use Rattle.beam.specs.declared.waiting.Waiting.{Waiting}
use Rattle.beam.specs.Ways.{IsRayIn}
use Rattle.beam.specs.Beams.{IsWaiting, AreWaiting, total, weight_on, still_added}
use Rattle.beam.proofs.Queues.{sums_same, total_one}
use Rattle.beam.proofs.Steps.{IsScene, begun, first}
use Rattle.beam.proofs.beam.Beams.count.Goals as goal

pub follow-requires-clause-waiting : goal.follow-requires-clause-waiting
follow-requires-clause-waiting c =
    let s = c.args.view.now.t.now in let o = c.args.view.now.s in let e = c.args.end in let h = c.requires in
    let scene : IsScene s o = record { store = c.facts.ensures; delaunay = h.delaunay; data_point = h.data_point } in
    let w : Waiting = record { cell = e; rays = c.args.rays } in
    let are : AreWaiting s o w = record {
      live = h.end.live;
      rays = All-weaker (IsRayIn s) (IsWaiting s o e) (λ r k. first s o r e scene k h.end) c.args.rays.items h.rays;
    } in
    All-same (AreWaiting s o) c.push.new.self.items (w ∷ [])
    (c.in_ok-push.ensures.items ∙ ap (λ (ws : List Waiting). ws ++ w ∷ []) c.clear.ensures.items)
    (All-cons (AreWaiting s o) w [] are (All-nil (AreWaiting s o)))

pub follow-requires-clause-room : goal.follow-requires-clause-room
follow-requires-clause-room c =
    λ id k m b.
    (let s = c.args.view.now.t.now in let o = c.args.view.now.s in let e = c.args.end in let h = c.requires in
    let scene : IsScene s o = record { store = c.facts.ensures; delaunay = h.delaunay; data_point = h.data_point } in
    let w : Waiting = record { cell = e; rays = c.args.rays } in
    let items : c.push.new.self.items ≡ w ∷ [] =
    c.in_ok-push.ensures.items ∙ ap (λ (ws : List Waiting). ws ++ w ∷ []) c.clear.ensures.items in
    let all = ap (total (still_added s o id k)) items ∙ total_one (still_added s o id k) w in
    let same =
    sums_same (still_added s o id k e) (weight_on s o id k) (IsRayIn s) (λ r i. begun s o r e scene i h.end id k) c.args.rays.items h.rays in
    let room = h.room id k m b in
    omega (arith, all, same, room))

pub returns-clause-added : goal.returns-clause-added
returns-clause-added c =
    λ id k m b.
    (let s = c.args.view.now.t.now in let o = c.args.view.now.s in let e = c.args.end in let h = c.requires in
    let scene : IsScene s o = record { store = c.facts.ensures; delaunay = h.delaunay; data_point = h.data_point } in
    let w : Waiting = record { cell = e; rays = c.args.rays } in
    let items : c.push.new.self.items ≡ w ∷ [] =
    c.in_ok-push.ensures.items ∙ ap (λ (ws : List Waiting). ws ++ w ∷ []) c.clear.ensures.items in
    let all = ap (total (still_added s o id k)) items ∙ total_one (still_added s o id k) w in
    let same =
    sums_same (still_added s o id k e) (weight_on s o id k) (IsRayIn s) (λ r i. begun s o r e scene i h.end id k) c.args.rays.items h.rays in
    let sums = c.in_ok-follow.ensures.sums id k m b in
    omega (arith, all, same, sums))
