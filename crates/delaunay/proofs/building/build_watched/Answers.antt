use Rattle.std.proofs.Common.{ℕ, ◌≡◌, ◌<◌, Bool, true, false, List, length, slice_index_or, sym, subst}
use Rattle.geo_sign.specs.Point.{Point}
use Rattle.curve_order.specs.Order.{IsOrder}
use Rattle.geo_sign.specs.Vertices.{boxed_vertices}
use Rattle.tetra_store.specs.Links.{links_of}
use Rattle.tetra_store.proofs.Moves.{delaunay_again}
use Rattle.delaunay.proofs.Numbered.{numbered_delaunay, numbered_partition}
use Rattle.delaunay.proofs.building.build_watched.Goals as goal

pub build_in_order-requires-clause-order : goal.build_in_order-requires-clause-order
build_in_order-requires-clause-order g c =
    let n = length c.args.points.now in
    subst (λ (list : List ℕ). IsOrder n list) (sym c.deref-2.ensures.value)
    (c.in_ok-order.ensures.order n c.in_ok-along.ensures.order)

pub returns-clause-inserted : goal.returns-clause-inserted
returns-clause-inserted g c =
    λ u l.
    subst (λ (flags : List Bool). slice_index_or flags u false ≡ true) (sym c.renumber.ensures.inserted)
    (c.in_ok-t.ensures.inserted u (subst (λ (points : List Point). u < length points) c.renumber.ensures.points l))

pub returns-clause-delaunay : goal.returns-clause-delaunay
returns-clause-delaunay g c =
    numbered_delaunay c.in_ok-t.t c.renumber.new.self c.renumber.ensures.points c.renumber.ensures.inserted
    c.in_ok-renumber.ensures.renumbered c.in_ok-t.ensures.delaunay

pub returns-clause-cells : goal.returns-clause-cells
returns-clause-cells g c =
    delaunay_again (boxed_vertices c.args.points.now) (links_of c.in_ok-t.t.slots) (links_of c.renumber.new.self.slots)
    c.in_ok-renumber.ensures.renumbered c.in_ok-t.ensures.cells

pub returns-clause-partition : goal.returns-clause-partition
returns-clause-partition g c = numbered_partition c.renumber.new.self c.facts.ensures (returns-clause-delaunay g c)
