-- Properties of all slices.
--
--   SliceIsOne              a mesh has at most one slice at a height
--   RefusalIsOne            as a slice a mesh has at most one error, besides out of memory
--   LacksMemoryAlone faces  only out of memory rejects these faces
--   BalancedIsSliced        if each directed edge of some faces occurs as often as its reverse (`IsBalanced`), the only
--                           error of a slice is out of memory (`LacksMemoryAlone`)
--   ClosedIsSliced          if each directed edge of a valid mesh occurs as often as its reverse, counted by
--                           `edge_count`, the only error of a slice is out of memory
use Rattle.std.specs.Prelude.{ℕ, ℤ, ◌≡◌, ◌≢◌, List, map}
use Rattle.geo_sign.specs.Point.{Point}
use Rattle.geo_sign.specs.Tetrahedron.{facet_at}
use Rattle.geo_sign.specs.Edges.{edge_count}
use Rattle.mesh.specs.Meshes.{IsMesh}
use Rattle.mesh_edges.specs.Edges.{IsBalanced}
use Rattle.solid_slice.specs.Refusals.{IsRefusedSlice}
use Rattle.solid_slice.specs.Slices.{IsSlice}
use Rattle.solid_slice.specs.declared.refusal.SliceRefusal.{SliceRefusal}
use Rattle.solid_slice.specs.declared.refusal.SliceRefusal.TheVariants.{NoMemory}
use Rattle.solid_slice.specs.declared.step.Step.{Step}

-- a mesh has one slice at a height
abbrev pub SliceIsOne : Type 0
SliceIsOne =
    (points : List Point) (faces : List (List ℕ)) (h : ℤ) (rings others : List (List Step)) → IsSlice points faces h rings
    → IsSlice points faces h others → rings ≡ others

-- a mesh has one error, except out of memory
abbrev pub RefusalIsOne : Type 0
RefusalIsOne =
    (faces : List (List ℕ)) (refusal other : SliceRefusal) → IsRefusedSlice faces refusal → IsRefusedSlice faces other
    → refusal ≢ NoMemory
    → other ≢ NoMemory → refusal ≡ other

-- only out of memory rejects these faces
abbrev pub LacksMemoryAlone : List (List ℕ) → Type 0
LacksMemoryAlone faces = (refusal : SliceRefusal) → IsRefusedSlice faces refusal → refusal ≡ NoMemory

-- each directed edge occurs as often as its reverse, so no pair with different counts is reported
abbrev pub BalancedIsSliced : Type 0
BalancedIsSliced = (faces : List (List ℕ)) → IsBalanced faces → LacksMemoryAlone faces

-- each directed edge occurs as often as its reverse, counting all edges of all faces: no face of a mesh has one edge twice, so
-- its edges are balanced
abbrev pub ClosedIsSliced : Type 0
ClosedIsSliced =
    (points : List Point) (faces : List (List ℕ)) → IsMesh points faces
    → ((u w : ℕ) → edge_count u w (map facet_at faces) ≡ edge_count w u (map facet_at faces)) → LacksMemoryAlone faces
