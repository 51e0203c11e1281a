-- A store whose live cells are Delaunay cells has all of them, and they part the box.
--
-- By the law of linked cells, Delaunay cells that are linked to each other on all sides but the walls are all there are, each
-- once (`listing`). The laws of places then give that each place lies in one of them, and that two that have a place in common,
-- strictly inside one of them, are the same. What is across a facet the store keeps.
use Rattle.std.proofs.Common.{ℕ, ◌≡◌, ◌<◌, Option, Some, None, refl, sym, ◌∙◌, ◌⊎◌, inl, inr}
use Rattle.geo_sign.specs.Tetrahedron.{tetrahedron, facet_of}
use Rattle.geo_sign.specs.Vertices.{IsWall}
use Rattle.geo_sign.specs.Cells.{IsCell}
use Rattle.tetra_store.specs.Links.{links_of, IsLive, IsOnlyAcross}
use Rattle.tetra_store.specs.Store.{Store, IsStore, vertices_of}
use Rattle.tetra_store.specs.Delaunay.{IsDelaunay}
use Rattle.tetra_store.specs.Stored.{live_of}
use Rattle.tetra_store.proofs.Observed.{only_at}
use Rattle.cell_laws.specs.Lists.{IsListing}
use Rattle.geo_sign.proofs.Rewritings.{rewritten_back, same_lying, same_vertex}
use Rattle.cell_laws.proofs.Laws.{linked_law, one_law}
use Rattle.cell_laws.proofs.SomeCell.{place_law}
use Rattle.cavity.proofs.Stores.{in_names, of_names, boxed, linked}
use Rattle.delaunay.specs.Partition.{IsPartition}

abbrev pub AreLiveCells : Store → Type 0
AreLiveCells s =
    (id : ℕ) → IsLive (links_of s.slots) id
    → IsCell (vertices_of s) ((links_of s.slots).at id).a ((links_of s.slots).at id).b ((links_of s.slots).at id).c
    ((links_of s.slots).at id).d

listing : (s : Store) (x : ℕ) → IsStore s → IsLive (links_of s.slots) x → AreLiveCells s
    → IsListing (vertices_of s) (live_of s.slots) (links_of s.slots).at
listing s x store_is live h =
    linked_law (vertices_of s) (boxed s store_is) (live_of s.slots) (links_of s.slots).at (links_of s.slots).next
    (linked s store_is) (λ y m. h y (of_names s.slots y m)) x (in_names s.slots x live)

pub whole : (s : Store) (x : ℕ) → IsStore s → IsLive (links_of s.slots) x → AreLiveCells s
    → IsDelaunay (vertices_of s) (links_of s.slots)
whole s x store_is live h =
    let list = listing s x store_is live h in
    record {
      cells = h;
      all = λ a b c d k.
          let z = list.full.all a b c d k in
          let t = (links_of s.slots).at z.0 in
          let w = rewritten_back t (tetrahedron a b c d) z.2 in
          record {
            cell = z.0;
            live = of_names s.slots z.0 z.1;
            has_a = same_vertex a (tetrahedron a b c d) t w (inl refl);
            has_b = same_vertex b (tetrahedron a b c d) t w (inr (inl refl));
            has_c = same_vertex c (tetrahedron a b c d) t w (inr (inr (inl refl)));
            has_d = same_vertex d (tetrahedron a b c d) t w (inr (inr (inr refl)));
          };
    }

across : (s : Store) (id k : ℕ) (o : Option ℕ) → o ≡ (links_of s.slots).next id k → IsStore s → IsLive (links_of s.slots) id
    → k < 4
    → (((links_of s.slots).next id k ≡ None) × IsWall (vertices_of s) (facet_of ((links_of s.slots).at id) k)) ⊎
    ((¬ IsWall (vertices_of s) (facet_of ((links_of s.slots).at id) k))
    × ((y : ℕ) × ((links_of s.slots).next id k ≡ Some y) × IsOnlyAcross (links_of s.slots) id k y))
across s id k None e store_is live l = inl (sym e, store_is.linked.walls id k live l (sym e))
across s id k (Some y) e store_is live l =
    inr (
      λ w. (let a : Some y ≡ None = e ∙ store_is.linked.inner id k live l w in cc),
      (y, sym e, only_at (vertices_of s) (links_of s.slots) id k y store_is.linked live l (sym e)),
    )

pub partition : (s : Store) (x : ℕ) → IsStore s → IsLive (links_of s.slots) x → AreLiveCells s → IsPartition s
partition s x store_is live h =
    let v = vertices_of s in
    let at = (links_of s.slots).at in
    let list = listing s x store_is live h in
    record {
      covered = λ q inside.
          let z = place_law v (boxed s store_is) q inside in
          let w = list.full.all z.0.a z.0.b z.0.c z.0.d z.1 in
          (w.0, of_names s.slots w.0 w.1, same_lying v q z.0 (at w.0) (rewritten_back (at w.0) z.0 w.2) z.2);
      apart =
          λ a b q a_live b_live m n.
          list.once a b (in_names s.slots a a_live) (in_names s.slots b b_live)
          (one_law v (boxed s store_is) (at a) (at b) q (h a a_live) (h b b_live) m n);
      across = λ id k l m. across s id k ((links_of s.slots).next id k) refl store_is l m;
    }
