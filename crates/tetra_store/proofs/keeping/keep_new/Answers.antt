use Rattle.std.proofs.Common.{ℕ, ◌≡◌, ◌<◌, [], ◌∷◌, length, ap, sym, ◌∙◌, subst, arith, slice_index, slice_index_or}
use Rattle.std.proofs.lemmas.List.{get_or_default}
use Rattle.geo_sign.specs.Tetrahedron.{Tetrahedron, vertex_of}
use Rattle.geo_sign.specs.Edges.{over}
use Rattle.tetra_store.specs.Fan.{fan_facet}
use Rattle.tetra_store.specs.Steps.{IsKeptAt}
use Rattle.tetra_store.proofs.Keeps.{vertex_index, over_read, AreKeptNew_keep}
use Rattle.tetra_store.proofs.keeping.keep_new.Goals as goal

pub keep-requires-clause-vertices : goal.keep-requires-clause-vertices
keep-requires-clause-vertices c = λ k l.
    let fan = c.args.fan.now in
    let lt : c.loop-i.i < length fan = omega arith in
    let e =
    over_read fan c.loop-i.i c.args.p c.index-fan-i.result c.index-fan-i-in-loop-i.result c.index-fan-i-in-loop-i-2.result lt in
    let xs =
    slice_index (slice_index_or fan c.loop-i.i c.index-fan-i.result).v 0
    ∷ slice_index (slice_index_or fan c.loop-i.i c.index-fan-i-in-loop-i.result).v 1
    ∷ slice_index (slice_index_or fan c.loop-i.i c.index-fan-i-in-loop-i-2.result).v 2 ∷ c.args.p ∷ [] in
    let same : vertex_of (over (fan_facet fan c.loop-i.i) c.args.p) k ≡ slice_index xs k =
    ap (λ (t : Tetrahedron). vertex_of t k) (sym e) ∙ vertex_index xs k l in
    let below : vertex_of (over (fan_facet fan c.loop-i.i) c.args.p) k < length c.loop-i.kept =
    omega (arith, c.requires.vertices c.loop-i.i k lt l, c.loop-i.invariant.count) in
    subst (λ (z : ℕ). z < length c.loop-i.kept) same below

pub loop-i-preserved : goal.loop-i-preserved
loop-i-preserved c =
    let fan = c.args.fan.now in
    let ids = c.args.ids.now in
    let i = c.loop-i.i in
    let lt : i < length fan = omega arith in
    let m : i < length ids = omega (arith, c.requires.count) in
    let e = over_read fan i c.args.p c.index-fan-i.result c.index-fan-i-in-loop-i.result c.index-fan-i-in-loop-i-2.result lt in
    let id_is : c.index-ids-i.result ≡ slice_index ids i = c.index-ids-i.is ∙ get_or_default ids i c.index-ids-i.result 0 m in
    let at : IsKeptAt c.loop-i.kept c.keep.new.kept (over (fan_facet fan i) c.args.p) (slice_index ids i) 4 =
    subst (λ (z : ℕ). IsKeptAt c.loop-i.kept c.keep.new.kept (over (fan_facet fan i) c.args.p) z 4) id_is
    (subst (λ (t : Tetrahedron). IsKeptAt c.loop-i.kept c.keep.new.kept t c.index-ids-i.result 4) e c.keep.ensures) in
    AreKeptNew_keep c.args.kept.now c.loop-i.kept c.keep.new.kept fan ids c.args.p i c.loop-i.invariant lt at
