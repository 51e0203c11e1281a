-- Labels in the order of the list and the same labels by number are one test of live cells (ListedCut), so what `facets_by_number` asks
-- follows from what is asked here, and each clause of the one is that of the other. `each` is what is known of the list by number, whatever
-- it is called.
use Rattle.std.proofs.Common.{ℕ, ◌≡◌, ◌<◌, Bool, List, IfOk, length, get_or, arith}
use Rattle.std.proofs.lemmas.Result.{IfOk-weaker}
use Rattle.flow_net.specs.Nets.{flag_at}
use Rattle.mesh.specs.declared.mesh.Mesh.{Mesh}
use Rattle.tetra_store.specs.Store.{vertices_of}
use Rattle.surface.specs.Labelled.{IsCutMesh, listed_label, mesh_over}
use Rattle.surface.proofs.ListedCut.{cut_mesh, none_has_corner, over_scenes}
use Rattle.surface.proofs.boundary.facets.Goals as goal

each : (ids : List ℕ) (labels flags inside : List Bool) → flags ≡ inside
    → ((k : ℕ) → k < length ids → flag_at inside (get_or ids k 0) ≡ flag_at labels k) → (k : ℕ) → k < length ids
    → flag_at flags (get_or ids k 0) ≡ flag_at labels k
each ids labels flags inside same are = grind arith

pub facets_by_number-requires : goal.facets_by_number-requires
facets_by_number-requires c =
    let ids : List ℕ = c.args.ids.now in
    let labels : List Bool = c.args.labels.now.inside in
    let flags : List Bool = c.deref.result.now in
    none_has_corner c.args.t.now.slots ids labels flags c.requires.ids
    (each ids labels flags _ c.deref.ensures.value c.in_ok-inside.ensures.flags) c.requires.corners

pub returns-clause-cut : goal.returns-clause-cut
returns-clause-cut c =
    let ids : List ℕ = c.args.ids.now in
    let labels : List Bool = c.args.labels.now.inside in
    let flags : List Bool = c.deref.result.now in
    let s = c.args.t.now in
    IfOk-weaker c.facets_by_number.result (IsCutMesh s.points s.slots (flag_at flags))
    (IsCutMesh s.points s.slots (listed_label ids labels))
    (λ (mesh : Mesh).
    cut_mesh s.slots ids labels flags c.requires.ids
    (each ids labels flags _ c.deref.ensures.value c.in_ok-inside.ensures.flags) (vertices_of s) c.facts.ensures.linked s.points
    mesh) c.facets_by_number.ensures.cut

pub returns-clause-points : goal.returns-clause-points
returns-clause-points c =
    let ids : List ℕ = c.args.ids.now in
    let labels : List Bool = c.args.labels.now.inside in
    let flags : List Bool = c.deref.result.now in
    over_scenes c.args.t.now.slots ids labels flags c.requires.ids
    (each ids labels flags _ c.deref.ensures.value c.in_ok-inside.ensures.flags)
    (λ scene rising test.
    IfOk c.facets_by_number.result (λ mesh. mesh.points.items ≡ (mesh_over c.args.t.now.points scene rising test).points))
    c.facets_by_number.ensures.points

pub returns-clause-faces : goal.returns-clause-faces
returns-clause-faces c =
    let ids : List ℕ = c.args.ids.now in
    let labels : List Bool = c.args.labels.now.inside in
    let flags : List Bool = c.deref.result.now in
    over_scenes c.args.t.now.slots ids labels flags c.requires.ids
    (each ids labels flags _ c.deref.ensures.value c.in_ok-inside.ensures.flags)
    (λ scene rising test.
    IfOk c.facets_by_number.result (λ mesh. mesh.faces.items ≡ (mesh_over c.args.t.now.points scene rising test).faces))
    c.facets_by_number.ensures.faces
