use Rattle.std.proofs.Common.{subst, Result, Ok, Err, IfOk}
use Rattle.mesh.specs.declared.mesh.Mesh.{Mesh}
use Rattle.solution.specs.Solutions.{surface_of}
use Rattle.surface.proofs.CutList.{can_be_cut}
use Rattle.visibility.specs.Scenes.{Scene, scene_of}
use Rattle.sweep.specs.Entries.{IsSurfaceOf}
use Rattle.sweep.specs.Swept.{Swept, scene_in}
use Rattle.sweep.proofs.Surfaces.{inside, labelled, rising, surface_is}
use Rattle.sweep.proofs.sweeping.Sweep.mesh.Goals as goal

pub facets_by_number-requires : goal.facets_by_number-requires
facets_by_number-requires c = can_be_cut _ _ _ _ _ (labelled _ _ _ _ _ _ _ _ _ _ c.self.invariant _ c.as_slice.ensures)

-- what follows of a mesh of these points and faces
of_both : {E : Type 0} (P Q R : Mesh → Type 0) (result : Result Mesh E) → IfOk result P → IfOk result Q
    → ((mesh : Mesh) → P mesh → Q mesh → R mesh) → IfOk result R
of_both P Q R (Ok mesh) are have so = so mesh are have
of_both P Q R (Err e) are have so = tt

pub returns-clause-surface : goal.returns-clause-surface
returns-clause-surface c =
    let kept = c.self.invariant in
    let scene : Scene =
    scene_of c.self.inside.seen.points.items c.self.inside.scanners.items c.self.inside.seen.sights.items
    c.self.inside.settings in
    let cells = rising _ _ _ _ _ _ _ _ _ _ kept in
    let test = inside _ _ _ _ _ _ _ _ _ _ kept in
    let labels = labelled _ _ _ _ _ _ _ _ _ _ kept _ c.as_slice.ensures in
    subst (λ (w : Swept). IfOk c.facets_by_number.result (λ mesh. IsSurfaceOf (scene_in w) w.points (surface_of mesh)))
    c.self.view_is
    (of_both _ _ (λ mesh. IsSurfaceOf scene c.self.inside.seen.points.items (surface_of mesh)) c.facets_by_number.result
    (c.facets_by_number.ensures.points scene cells test labels) (c.facets_by_number.ensures.faces scene cells test labels)
    (λ mesh points faces. surface_is _ _ _ _ _ _ _ _ _ _ kept mesh points faces))
