-- The loops of all cut faces, each begun at its smallest face.
--
-- The invariant is `AreRings`: behind face number n the loops so far are rising by their first faces and have exactly the
-- cut faces that are visited, each once. An unvisited face begins a loop more (rings_more), a visited one is passed over
-- (rings_skip); behind the last face every cut face is in a loop (rings_all). The two branches differ in what they say of
-- the lists that were pushed to, or were not.
use Rattle.std.proofs.Common.{ℕ, ◌≡◌, ◌+◌, ◌∙◌, ◌++◌, ap, sym, subst, ◌<◌, arith, true, false, Bool, List, [], ◌∷◌, get_or}
use Rattle.std.proofs.Common.{length, map, ℤ, to_z, of_z, Vec, Global}
use mir.Syntax.{w32}
use Rattle.std.specs.List.{All}
use Rattle.std.proofs.lemmas.Int.{ints}
use Rattle.std.proofs.lemmas.List.{map_push, get_or_default}
use Rattle.std.proofs.lemmas.List.Elements.{All-push}
use Rattle.solid_slice.specs.Cuts.{IsStep}
use Rattle.solid_slice.specs.Loops.{the_face, ring_faces}
use Rattle.solid_slice.specs.declared.step.Ring.{Ring}
use Rattle.solid_slice.proofs.AllRings.{AreRings, rings_none, rings_skip, rings_more, rings_all}
use Rattle.solid_slice.proofs.rings.loops_of.Goals as goal
use Rattle.solid_slice.proofs.rings.loops_of.Goals.{then-not-visited-start+in_ok-steps+in_ok-push, else-not-visited-start}

pub loop-start-init : goal.loop-start-init
loop-start-init c =
    let stored : to_z w32 (of_z w32 c.args.height) ≡ c.args.height = omega (arith, ints) in
    let points = c.args.mesh.now.points.items in
    let faces = c.args.mesh.now.faces.items in
    let s = c.requires.next in
    record {
      rings =
          subst (λ (z : ℤ). AreRings points faces z c.args.next.now c.args.visited.now c.args.visited.now
          (map ring_faces c.new-rings.result.items) 0) (sym stored)
          (subst (λ (rings : List (List ℕ)).
          AreRings points faces c.args.height c.args.next.now c.args.visited.now c.args.visited.now rings 0)
          (sym (ap (map ring_faces) c.new-rings.ensures.items))
          (rings_none points faces c.args.height c.args.next.now c.args.visited.now c.requires.uncut s));
      points = λ k d l. absurd (omega (arith, l, ap (λ (t : List Ring). length t) c.new-rings.ensures.items));
    }

pub loop-start-preserved : goal.loop-start-preserved
loop-start-preserved c =
    let points = c.args.mesh.now.points.items in
    let faces = c.args.mesh.now.faces.items in
    let h = to_z w32 (of_z w32 c.args.height) in
    let old = c.args.visited.now in
    let next = c.args.next.now in
    let rings = map ring_faces c.loop-start.rings.items in
    elim c.if-not-visited-start.branch [
      | then-not-visited-start+in_ok-steps+in_ok-push w ↦
          let ring = map the_face w.in_ok-steps.steps.items in
          let more =
          rings_more points faces h next old c.loop-start.visited w.follow.new.visited rings ring c.loop-start.start
          c.loop-start.invariant.rings w.in_ok-steps.ensures.ring w.in_ok-steps.ensures.first w.in_ok-steps.ensures.between
          w.in_ok-steps.ensures.visited in
          let one : Ring = record { steps = w.in_ok-steps.steps } in
          let items : c.if-not-visited-start.rings.items ≡ c.loop-start.rings.items ++ one ∷ [] =
          ap (λ (v : Vec Ring Global). v.items) w.rings-is ∙ w.in_ok-push.ensures.items in
          let faces_is : map ring_faces c.if-not-visited-start.rings.items ≡ rings ++ ring ∷ [] =
          ap (map ring_faces) items ∙ map_push ring_faces c.loop-start.rings.items one in
          record {
            rings =
                subst (λ (v : List Bool).
                AreRings points faces h next old v (map ring_faces c.if-not-visited-start.rings.items) (c.loop-start.start + 1))
                (sym w.visited-is)
                (subst (λ (t : List (List ℕ)). AreRings points faces h next old w.follow.new.visited t (c.loop-start.start + 1))
                (sym faces_is) more);
            points =
                subst (λ (t : List Ring). All (λ (ring : Ring). All (IsStep points faces h) ring.steps.items) t) (sym items)
                (All-push (λ (ring : Ring). All (IsStep points faces h) ring.steps.items) c.loop-start.rings.items one
                c.loop-start.invariant.points w.in_ok-steps.ensures.points);
          }
      | else-not-visited-start w ↦
          let within : c.loop-start.start < length c.loop-start.visited = omega arith in
          let seen : get_or c.loop-start.visited c.loop-start.start true ≡ true =
          get_or_default c.loop-start.visited c.loop-start.start true false within ∙ w.if-not-visited-start.false in
          let skipped =
          rings_skip points faces h next old c.loop-start.visited rings c.loop-start.start seen c.loop-start.invariant.rings in
          record {
            rings =
                subst (λ (v : List Bool).
                AreRings points faces h next old v (map ring_faces c.if-not-visited-start.rings.items) (c.loop-start.start + 1))
                (sym w.visited-is)
                (subst (λ (t : List (List ℕ)). AreRings points faces h next old c.loop-start.visited t (c.loop-start.start + 1))
                (sym (ap (λ (v : Vec Ring Global). map ring_faces v.items) w.rings-is)) skipped);
            points =
                subst (λ (v : Vec Ring Global). All (λ (ring : Ring). All (IsStep points faces h) ring.steps.items) v.items)
                (sym w.rings-is) c.loop-start.invariant.points;
          }
    ]

pub returns-clause-loops : goal.returns-clause-loops
returns-clause-loops c =
    let stored : to_z w32 (of_z w32 c.args.height) ≡ c.args.height = omega (arith, ints) in
    let points = c.args.mesh.now.points.items in
    let faces = c.args.mesh.now.faces.items in
    let r =
    subst (λ (z : ℤ). AreRings points faces z c.args.next.now c.args.visited.now c.loop-start.visited
    (map ring_faces c.loop-start.rings.items) c.loop-start.start) stored c.loop-start.invariant.rings in
    rings_all points faces c.args.height c.args.next.now c.args.visited.now c.loop-start.visited
    (map ring_faces c.loop-start.rings.items) c.loop-start.start (omega (arith, r.between.size)) c.requires.uncut r
