-- The slice of a mesh.
--
--   steps_of ring                 the steps of a ring
--   IsSlice points faces h rings  the rings are the loops of all cut faces, and each step has the point of its face
use Rattle.std.specs.Prelude.{ℕ, List, map, All, ℤ}
use Rattle.geo_sign.specs.Point.{Point}
use Rattle.solid_slice.specs.Cuts.{IsStep}
use Rattle.solid_slice.specs.Loops.{the_face, AreLoops}
use Rattle.solid_slice.specs.declared.step.Step.{Step}
use Rattle.solid_slice.specs.declared.step.Ring.{Ring}

abbrev pub steps_of : Ring → List Step
steps_of ring = ring.steps.items

-- the faces of the rings are the loops of all cut faces, and each step has the point of its face
pub record IsSlice (points : List Point) (faces : List (List ℕ)) (h : ℤ) (rings : List (List Step)) : Type 0 where
  pub loops : AreLoops points faces h (map (map the_face) rings)
  pub steps : All (All (IsStep points faces h)) rings
