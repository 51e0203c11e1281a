-- The slice is what the rings are, said of loops of steps.
--
-- The rings' faces are the faces of their steps (faces_of_steps), and the height reads back from its word as it was put
-- in (stored). So that the rings are the loops of the mesh is that the slice's are; each face stands in them at most
-- once, so there are no more steps than faces (few_steps).
use Rattle.std.proofs.Common.{ℕ, ◌≡◌, refl, ap, subst, List, [], ◌∷◌, map, arith, ℤ, to_z, of_z}
use mir.Syntax.{w32}
use Rattle.std.proofs.lemmas.Int.{ints}
use Rattle.std.specs.List.{All}
use Rattle.std.proofs.lemmas.List.Elements.{All-map}
use Rattle.solid_slice.specs.Cuts.{IsStep}
use Rattle.solid_slice.specs.Loops.{the_face, ring_faces, AreLoops}
use Rattle.solid_slice.specs.Slices.{steps_of}
use Rattle.solid_slice.specs.declared.step.Ring.{Ring}
use Rattle.solid_slice.proofs.Totals.{few_steps}
use Rattle.solid_slice.proofs.slicing.slice.Goals as goal

faces_of_steps : (rings : List Ring) → map ring_faces rings ≡ map (map the_face) (map steps_of rings)
faces_of_steps [] = refl
faces_of_steps (ring ∷ rings) = ap (λ (t : List (List ℕ)). ring_faces ring ∷ t) (faces_of_steps rings)

pub returns-clause-slice : goal.returns-clause-slice
returns-clause-slice c =
    let stored : to_z w32 (of_z w32 c.args.height) ≡ c.args.height = omega (arith, ints) in
    let points = c.args.mesh.now.points.items in
    let faces = c.args.mesh.now.faces.items in
    let rings = c.in_ok-rings.rings.items in
    let h = to_z w32 (of_z w32 c.args.height) in
    let there = c.in_ok-rings.ensures in
    record {
      loops =
          subst (λ (z : ℤ). AreLoops points faces z (map (map the_face) (map steps_of rings))) stored
          (subst (λ (t : List (List ℕ)). AreLoops points faces h t) (faces_of_steps rings) there.loops);
      steps =
          subst (λ (z : ℤ). All (All (IsStep points faces z)) (map steps_of rings)) stored
          (All-map (All (IsStep points faces h)) steps_of rings there.points);
    }

pub returns-clause-few : goal.returns-clause-few
returns-clause-few c =
    let h = to_z w32 (of_z w32 c.args.height) in
    let points = c.args.mesh.now.points.items in
    let faces = c.args.mesh.now.faces.items in
    let rings = c.in_ok-rings.rings.items in
    few_steps points faces h (map steps_of rings)
    (subst (λ (t : List (List ℕ)). AreLoops points faces h t) (faces_of_steps rings) c.in_ok-rings.ensures.loops)
