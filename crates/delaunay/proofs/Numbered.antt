-- A store whose cells got other numbers. Its cells are those of before, so they are Delaunay cells of the same vertices, and the
-- store is still one, so they part the box.
use Rattle.std.proofs.Common.{◌≡◌, Bool, List, sym, subst, arith, slice_index}
use Rattle.geo_sign.specs.Point.{Point}
use Rattle.tetra_store.specs.Links.{links_of}
use Rattle.tetra_store.specs.Store.{Store, IsStore, vertices_at, vertices_of}
use Rattle.tetra_store.specs.Delaunay.{IsDelaunay}
use Rattle.tetra_store.specs.Renumbered.{IsRenumbered}
use Rattle.tetra_store.proofs.Moves.{delaunay_again}
use Rattle.delaunay.specs.Partition.{IsPartition}
use Rattle.delaunay.proofs.Whole.{partition}

pub numbered_delaunay : (s t : Store) → t.points ≡ s.points → t.inserted ≡ s.inserted
    → IsRenumbered (links_of s.slots) (links_of t.slots) → IsDelaunay (vertices_of s) (links_of s.slots)
    → IsDelaunay (vertices_of t) (links_of t.slots)
numbered_delaunay s t e f r h =
    subst (λ (points : List Point). IsDelaunay (vertices_at points t.inserted) (links_of t.slots)) (sym e)
    (subst (λ (flags : List Bool). IsDelaunay (vertices_at s.points flags) (links_of t.slots)) (sym f)
    (delaunay_again (vertices_of s) (links_of s.slots) (links_of t.slots) r h))

pub numbered_partition : (t : Store) → IsStore t → IsDelaunay (vertices_of t) (links_of t.slots) → IsPartition t
numbered_partition t store h =
    let first = store.kept_cells 0 (store.vertices.boxed.corner_in 0 (omega arith)) in
    partition t (slice_index t.kept 0) store first.0 h.cells
