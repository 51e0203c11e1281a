-- The cell in which the new vertex lies is in conflict with it (found_law), so the flood may begin there. Its cells and fan are what replace
-- asks for (can_replace), once there is room for as many cells as the fan has facets. What replace leaves are live cells that are each a
-- cell of the vertices with the new one (are_cells): an old one that is clear of it, or one over the fan. Linked cells each of which is a
-- cell are all cells, each once, so the store is Delaunay again (whole) and parts the box (partition). The cell answered is over the fan,
-- so it has the new vertex (over_has).
use Rattle.std.proofs.Common.{ℕ, ◌≤◌, List, length, sym, subst, arith}
use Rattle.geo_sign.specs.Places.{IsLyingIn}
use Rattle.geo_sign.specs.Point.{Point}
use Rattle.geo_sign.specs.Rational.{rational}
use Rattle.tetra_store.specs.declared.fan.Facet.{Facet}
use Rattle.tetra_store.specs.Links.{links_of}
use Rattle.tetra_store.specs.Store.{vertices_of}
use Rattle.tetra_store.specs.Fan.{CanReplace, IsReplaced}
use Rattle.cell_laws.proofs.Laws.{found_law}
use Rattle.cavity.proofs.Stores.{boxed, new_vertex}
use Rattle.delaunay.proofs.Whole.{AreLiveCells, whole, partition}
use Rattle.delaunay.proofs.Inserted.{can_replace, is_data, replaced, live_cells, over_has}
use Rattle.delaunay.proofs.insertion.insert_with.Goals as goal

pub locate-found-requires-clause-data_point : goal.locate-found-requires-clause-data_point
locate-found-requires-clause-data_point c =
    is_data c.args.t.now c.args.p c.point.result c.point.ensures c.facts.ensures c.requires.below c.requires.out

pub cavity_of-requires-clause-conflict : goal.cavity_of-requires-clause-conflict
cavity_of-requires-clause-conflict c =
    let s = c.args.t.now in
    let found = c.locate-found.result in
    found_law (vertices_of s) (boxed s c.facts.ensures) c.args.p
    (new_vertex s c.args.p c.facts.ensures c.requires.below c.requires.out) ((links_of s.slots).at found)
    (c.requires.delaunay.cells found c.locate-found.ensures.live)
    (subst (λ (z : Point). IsLyingIn (vertices_of s) ((links_of s.slots).at found) (rational z)) c.point.ensures
    c.locate-found.ensures.lies)

pub replace-id-requires : goal.replace-id-requires
replace-id-requires c =
    let s = c.args.t.now in
    let t = c.reserve.new.self in
    let e = c.in_ok-reserve.ensures in
    let cells = c.cavity_of.new.into.cells.items in
    let fan = c.cavity_of.new.into.fan.items in
    let l : length fan ≤ t.spare = (let m = e.spare in let n = c.len.ensures.value in omega arith) in
    subst (λ (z : List ℕ). CanReplace t z c.deref-2.result.now c.args.p) (sym c.deref.ensures)
    (subst (λ (z : List Facet). CanReplace t cells z c.args.p) (sym c.deref-2.ensures)
    (can_replace s t c.args.p cells fan e.points e.inserted e.slots e.kept l c.in_ok-cavity_of.ensures.cavity))

are_cells : (c : goal.After-facts-2) → AreLiveCells c.replace-id.new.self
are_cells c =
    let s = c.args.t.now in
    let t = c.reserve.new.self in
    let u = c.replace-id.new.self in
    let e = c.in_ok-reserve.ensures in
    let cells = c.cavity_of.new.into.cells.items in
    let fan = c.cavity_of.new.into.fan.items in
    let r : IsReplaced t u cells fan c.args.p =
    subst (λ (z : List ℕ). IsReplaced t u z fan c.args.p) c.deref.ensures
    (subst (λ (z : List Facet). IsReplaced t u c.deref.result.now z c.args.p) c.deref-2.ensures
    c.replace-id.ensures.replaced) in
    live_cells s u t.spare t.capacity c.args.p cells fan c.facts.ensures c.requires.delaunay c.requires.below c.requires.out
    c.in_ok-cavity_of.ensures.cavity (replaced s t u c.args.p cells fan e.points e.inserted e.slots e.kept r)

pub returns-clause-delaunay : goal.returns-clause-delaunay
returns-clause-delaunay c =
    whole c.replace-id.new.self c.replace-id.result c.facts-2.ensures c.replace-id.ensures.live (are_cells c)

pub returns-clause-partition : goal.returns-clause-partition
returns-clause-partition c =
    partition c.replace-id.new.self c.replace-id.result c.facts-2.ensures c.replace-id.ensures.live (are_cells c)

pub returns-clause-has : goal.returns-clause-has
returns-clause-has c =
    over_has (links_of c.replace-id.new.self.slots) c.deref-2.result.now c.args.p c.replace-id.result c.replace-id.ensures.new
