-- One loop, from a face that was not visited back to it.
--
-- The invariant is `IsFollowed`: the steps so far are the faces from the first one on, each the next of the one before, and
-- all of them were visited on the way. It begins (begins), is kept by a step (goes_on), gets smaller as fewer faces are left
-- (fewer_left), and where the next face is the first the steps are a loop (closes), with as many visits more as it has faces
-- (taken_count). All of these are lemmas of Following; here the height, read from 32 bits, is put in for the number that it
-- is (stored), and a pushed step for its face (faces_more).
use Rattle.std.proofs.Common.{ℕ, ◌≡◌, ◌+◌, ◌==◌, ◌++◌, ◌∙◌, ap, sym, subst, arith, List, [], ◌∷◌, get_or, set, true, length}
use Rattle.std.proofs.Common.{map, ℤ, to_z, of_z}
use mir.Syntax.{w32}
use Rattle.std.specs.List.{All, count_by}
use Rattle.std.proofs.lemmas.Int.{ints}
use Rattle.std.proofs.lemmas.List.{map_push}
use Rattle.std.proofs.lemmas.List.Elements.{All-push}
use Rattle.solid_slice.specs.Cuts.{IsStep}
use Rattle.solid_slice.specs.Loops.{the_face, IsLoop}
use Rattle.solid_slice.specs.Walks.{IsSuccession, visits, IsBetweenLoops}
use Rattle.solid_slice.specs.declared.step.Step.{Step}
use Rattle.solid_slice.proofs.Following.{IsFollowed, begins, fewer_left, goes_on, closes, between, taken_count, taken_first}
use Rattle.solid_slice.proofs.rings.follow.Goals as goal

-- the faces of the steps, with one step more
faces_more : (steps steps' : List Step) (s : Step) (face : ℕ) → steps' ≡ steps ++ s ∷ [] → s.face ≡ face
    → map the_face steps' ≡ map the_face steps ++ face ∷ []
faces_more steps steps' s face e f =
    ap (map the_face) e ∙ (map_push the_face steps s ∙ ap (λ (g : ℕ). map the_face steps ++ g ∷ []) f)

steps_more : (P : Step → Type 0) (steps steps' : List Step) (s : Step) → steps' ≡ steps ++ s ∷ [] → All P steps → P s
    → All P steps'
steps_more P steps steps' s e all one = subst (λ (t : List Step). All P t) (sym e) (All-push P steps s all one)

pub loop-steps-init : goal.loop-steps-init
loop-steps-init c =
    let stored : to_z w32 (of_z w32 c.args.height) ≡ c.args.height = omega (arith, ints) in
    let points = c.args.mesh.now.points.items in
    let faces = c.args.mesh.now.faces.items in
    let h = to_z w32 (of_z w32 c.args.height) in
    let b =
    subst (λ (z : ℤ). IsBetweenLoops points faces z c.args.next.now c.args.visited.now) (sym stored) c.requires.between in
    record {
      walk =
          subst (λ (ring : List ℕ).
          IsFollowed points faces h c.args.next.now c.args.visited.now c.args.start c.args.visited.now ring c.args.start)
          (sym (ap (map the_face) c.new-steps.ensures.items))
          (begins points faces h c.args.next.now c.args.visited.now c.args.start b c.requires.fresh);
      points = λ k d l. absurd (omega (arith, l, ap (λ (t : List Step). length t) c.new-steps.ensures.items));
    }

pub loop-steps-smaller : goal.loop-steps-smaller
loop-steps-smaller c = fewer_left c.loop-steps.visited c.loop-steps.face c.loop-steps.invariant.walk.fresh

pub loop-steps-preserved : goal.loop-steps-preserved
loop-steps-preserved c =
    let stored : to_z w32 (of_z w32 c.args.height) ≡ c.args.height = omega (arith, ints) in
    let points = c.args.mesh.now.points.items in
    let faces = c.args.mesh.now.faces.items in
    let h = to_z w32 (of_z w32 c.args.height) in
    let s = subst (λ (z : ℤ). IsSuccession points faces z c.args.next.now) (sym stored) c.requires.next in
    let g =
    goes_on points faces h c.args.next.now c.args.visited.now c.args.start s c.requires.smaller c.loop-steps.visited
    (map the_face c.loop-steps.steps.items) c.loop-steps.face c.loop-steps.invariant.walk c.if-face-start.false in
    record {
      walk =
          subst (λ (ring : List ℕ).
          IsFollowed points faces h c.args.next.now c.args.visited.now c.args.start
          (set c.loop-steps.visited c.loop-steps.face true) ring (get_or c.args.next.now c.loop-steps.face 0))
          (sym (faces_more c.loop-steps.steps.items c.push.new.self.items c.step_of.result c.loop-steps.face
          c.in_ok-push.ensures.items c.step_of.ensures.face)) g;
      points =
          steps_more (IsStep points faces h) c.loop-steps.steps.items c.push.new.self.items c.step_of.result
          c.in_ok-push.ensures.items c.loop-steps.invariant.points c.step_of.ensures.step;
    }

pub returns-then-face-start-clause-points : goal.returns-then-face-start-clause-points
returns-then-face-start-clause-points c =
    let stored : to_z w32 (of_z w32 c.args.height) ≡ c.args.height = omega (arith, ints) in
    let points = c.args.mesh.now.points.items in
    let faces = c.args.mesh.now.faces.items in
    subst (λ (z : ℤ). All (IsStep points faces z) c.push.new.self.items) stored
    (steps_more (IsStep points faces (to_z w32 (of_z w32 c.args.height))) c.loop-steps.steps.items c.push.new.self.items
    c.step_of.result c.in_ok-push.ensures.items c.loop-steps.invariant.points c.step_of.ensures.step)

pub returns-then-face-start-clause-ring : goal.returns-then-face-start-clause-ring
returns-then-face-start-clause-ring c =
    let stored : to_z w32 (of_z w32 c.args.height) ≡ c.args.height = omega (arith, ints) in
    let points = c.args.mesh.now.points.items in
    let faces = c.args.mesh.now.faces.items in
    let w =
    subst (λ (z : ℤ). IsFollowed points faces z c.args.next.now c.args.visited.now c.args.start c.loop-steps.visited
    (map the_face c.loop-steps.steps.items) c.loop-steps.face) stored c.loop-steps.invariant.walk in
    subst (λ (ring : List ℕ). IsLoop points faces c.args.height ring)
    (sym (faces_more c.loop-steps.steps.items c.push.new.self.items c.step_of.result c.loop-steps.face
    c.in_ok-push.ensures.items c.step_of.ensures.face))
    (closes points faces c.args.height c.args.next.now c.args.visited.now c.args.start c.requires.next c.requires.smaller
    c.loop-steps.visited (map the_face c.loop-steps.steps.items) c.loop-steps.face w c.if-face-start.true)

pub returns-then-face-start-clause-first : goal.returns-then-face-start-clause-first
returns-then-face-start-clause-first c =
    let stored : to_z w32 (of_z w32 c.args.height) ≡ c.args.height = omega (arith, ints) in
    let points = c.args.mesh.now.points.items in
    let faces = c.args.mesh.now.faces.items in
    let w =
    subst (λ (z : ℤ). IsFollowed points faces z c.args.next.now c.args.visited.now c.args.start c.loop-steps.visited
    (map the_face c.loop-steps.steps.items) c.loop-steps.face) stored c.loop-steps.invariant.walk in
    ap (λ (ring : List ℕ). get_or ring 0 0)
    (sym (sym (faces_more c.loop-steps.steps.items c.push.new.self.items c.step_of.result c.loop-steps.face
    c.in_ok-push.ensures.items c.step_of.ensures.face)))
    ∙ taken_first points faces c.args.height c.args.next.now c.args.visited.now c.args.start c.requires.next c.requires.smaller
    c.loop-steps.visited (map the_face c.loop-steps.steps.items) c.loop-steps.face w

pub returns-then-face-start-clause-between : goal.returns-then-face-start-clause-between
returns-then-face-start-clause-between c =
    let stored : to_z w32 (of_z w32 c.args.height) ≡ c.args.height = omega (arith, ints) in
    let points = c.args.mesh.now.points.items in
    let faces = c.args.mesh.now.faces.items in
    let w =
    subst (λ (z : ℤ). IsFollowed points faces z c.args.next.now c.args.visited.now c.args.start c.loop-steps.visited
    (map the_face c.loop-steps.steps.items) c.loop-steps.face) stored c.loop-steps.invariant.walk in
    between points faces c.args.height c.args.next.now c.args.visited.now c.args.start c.requires.next c.requires.smaller
    c.loop-steps.visited (map the_face c.loop-steps.steps.items) c.loop-steps.face w c.if-face-start.true

pub returns-then-face-start-clause-visited : goal.returns-then-face-start-clause-visited
returns-then-face-start-clause-visited c =
    let stored : to_z w32 (of_z w32 c.args.height) ≡ c.args.height = omega (arith, ints) in
    let points = c.args.mesh.now.points.items in
    let faces = c.args.mesh.now.faces.items in
    let w =
    subst (λ (z : ℤ). IsFollowed points faces z c.args.next.now c.args.visited.now c.args.start c.loop-steps.visited
    (map the_face c.loop-steps.steps.items) c.loop-steps.face) stored c.loop-steps.invariant.walk in
    λ f. ap (λ (ring : List ℕ). count_by (λ g. g == f) ring + visits c.args.visited.now f)
    (sym (sym (faces_more c.loop-steps.steps.items c.push.new.self.items c.step_of.result c.loop-steps.face
    c.in_ok-push.ensures.items c.step_of.ensures.face)))
    ∙ taken_count points faces c.args.height c.args.next.now c.args.visited.now c.args.start c.requires.next c.requires.smaller
    c.loop-steps.visited (map the_face c.loop-steps.steps.items) c.loop-steps.face w f
