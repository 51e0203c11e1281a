-- The store of the box keeps what a store keeps.
use Rattle.std.proofs.Common.{ℕ, ◌≡◌, ◌<◌, ◌≤◌, Bool, true, false, nat_lt, List, ◌++◌, length, get_or, Option, refl, sym, ◌∙◌}
use Rattle.std.proofs.Common.{subst, arith, slice_index, slice_index_or}
use borrow.Author.Tests.{ltb-true}
use Rattle.std.proofs.lemmas.Bool.Decides.{nat_tests}
use Rattle.geo_sign.specs.Point.{Point, origin, IsWithin}
use Rattle.geo_sign.specs.declared.point.TheConstants.{CORNERS, DATA_LIMIT}
use Rattle.geo_sign.specs.Tetrahedron.{Tetrahedron}
use Rattle.geo_sign.specs.Boxes.{IsBoxed, inserted_vertices}
use Rattle.geo_sign.specs.Vertices.{Has, corners}
use Rattle.tetra_store.specs.declared.boxed.TheConstants.{VERTEX_LIMIT}
use Rattle.tetra_store.specs.declared.link.Cell.{Cell}
use Rattle.geo_sign.specs.Writings.{IsVertexOf}
use Rattle.geo_sign.proofs.Corners.{vertex_count, boxed_points}
use Rattle.tetra_store.specs.Links.{links_of, IsLive}
use Rattle.tetra_store.specs.Store.{IsStore, AreVertices, vertices_at}
use Rattle.tetra_store.specs.Box.{box_keeper, AreBoxCells}
use Rattle.tetra_store.specs.Delaunay.{IsDelaunay}
use Rattle.tetra_store.proofs.BoxFacts.{box_keeps, box_linked}
use Rattle.tetra_store.proofs.BoxCells.{box_delaunay}

-- the points of a store are the corners and others
pub vertices_are : (all points : List Point) (flags : List Bool) → all ≡ corners ++ points
    → vertices_at all flags ≡ inserted_vertices points flags
vertices_are all points flags e = grind (arith, vertex_count)

module _ (points : List Point) (data_points : (k : ℕ) → k < length points → IsWithin DATA_LIMIT (get_or points k origin))
    (distinct : (j k : ℕ) → j < length points → k < length points → get_or points j origin ≡ get_or points k origin → j ≡ k)
    (few : length points ≤ VERTEX_LIMIT)
    (flags : List Bool) (flags_are : (u : ℕ) → slice_index_or flags u false ≡ nat_lt u CORNERS) where
  abbrev all : List Point
  all = corners ++ points

  pub box_vertices : AreVertices all flags
  box_vertices = record {
    few = let n = vertex_count points in omega arith;
    boxed =
        subst IsBoxed (sym (vertices_are all points flags refl))
        (boxed_points points data_points distinct (λ u. slice_index_or flags u false) (λ k l. flags_are k ∙ lt_yes k l));
  }
    where
      lt_yes : (k : ℕ) → k < 8 → nat_lt k 8 ≡ true
      lt_yes k l = grind (arith, nat_tests)

  corner_only : (u : ℕ) → Has (vertices_at all flags) u → u < CORNERS
  corner_only u h = ltb-true u 8 (sym (flags_are u) ∙ h.1)

  module _ (slots : List (Option Cell)) (ids kept : List ℕ) (box : AreBoxCells (links_of slots) ids)
      (keeps : (u : ℕ) → u < CORNERS → slice_index kept u ≡ slice_index ids (box_keeper u)) where
    kept_at : (u : ℕ) → Has (vertices_at all flags) u
        → IsLive (links_of slots) (slice_index kept u) × IsVertexOf ((links_of slots).at (slice_index kept u)) u
    kept_at u h =
        let l = corner_only u h in
        let k = box_keeps u l in
        let e = sym (keeps u l) in (
          subst (λ (z : ℕ). IsLive (links_of slots) z) e (box.live (box_keeper u) k.0),
          subst (λ (z : ℕ). IsVertexOf ((links_of slots).at z) u) e
              (subst (λ (t : Tetrahedron). IsVertexOf t u) (sym (box.at (box_keeper u) k.0)) k.1),
        )

    pub box_store : (spare capacity : ℕ) → length flags ≡ length all → length kept ≡ length all
        → IsStore (record { points = all; inserted = flags; slots = slots; kept = kept; spare = spare; capacity = capacity })
    box_store spare capacity f k = record {
      flags = f;
      keeps = k;
      vertices = box_vertices;
      linked = box_linked (vertices_at all flags) box_vertices.boxed (links_of slots) ids box;
      kept_cells = kept_at;
    }

    pub box_is_delaunay : IsDelaunay (vertices_at all flags) (links_of slots)
    box_is_delaunay = box_delaunay (vertices_at all flags) box_vertices.boxed corner_only (links_of slots) ids box
