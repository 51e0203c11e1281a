use Rattle.std.proofs.Common.{◌⊎◌, List, get_or, subst}
use Rattle.geo_sign.specs.Point.{Point}
use Rattle.mesh.specs.declared.mesh.Mesh.{Mesh}
use Rattle.mesh_join.specs.Refusals.{IsFlatMesh, LacksPlace}
use Rattle.mesh_join.proofs.AllPlaces.{flat_tile}
use Rattle.mesh_join.proofs.join.number.Goals as goal

pub returns-clause-refused : goal.returns-clause-refused
returns-clause-refused c =
    let meshes : List Mesh = c.args.meshes.now in
    λ _. flat_tile meshes c.in_ok-places-2.places.items c.in-Err.tile c.in_ok-places-2.ensures
    (rw c.in-Err.is at c.in_ok-tiles-2.ensures.within)
    (λ m. subst (λ (ps : List Point). LacksPlace ps (get_or meshes c.in-Err.tile m).points.items ⊎ IsFlatMesh (get_or meshes c.in-Err.tile m))
    c.deref-2.ensures.value ((rw c.in-Err.is at c.in_ok-tiles-2.ensures.none) m))
