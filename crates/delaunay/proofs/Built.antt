-- Which vertices are inserted, where points are inserted in an order, and that in the end the vertices are all of the points.
--
-- After n steps exactly the first n of the order are in: the order has each number once, so no step meets one that is in. In
-- the end all are, and then the vertices of the store differ from those of the points in how it is said which are in, which no
-- cell tells.
use Rattle.std.proofs.Common.{ℕ, ◌≡◌, ◌<◌, ◌≤◌, ◌+◌, ◌-◌, Bool, true, false, List, ◌++◌, length, ap, ◌∙◌, ⊎_elim, subst}
use Rattle.std.proofs.Common.{arith, set, slice_index, slice_index_or}
use Rattle.std.specs.Prelude.{nat_lt}
use Rattle.std.proofs.lemmas.Bool.{cases_lt, le-ltb}
use Rattle.std.proofs.lemmas.List.{get_or-set_same, get_or-set_other}
use Rattle.geo_sign.specs.declared.point.TheConstants.{CORNERS}
use Rattle.geo_sign.specs.Point.{Point}
use Rattle.geo_sign.specs.Boxes.{inserted_vertices}
use Rattle.geo_sign.specs.Vertices.{Vertices, boxed_vertices, corners}
use Rattle.geo_sign.proofs.Corners.{vertex_count}
use Rattle.cell_laws.proofs.Stored.{all_cells, cells_all}
use Rattle.tetra_store.proofs.BoxStore.{vertices_are}
use Rattle.tetra_store.specs.Links.{links_of}
use Rattle.tetra_store.specs.Store.{Store, IsStore, vertices_of}
use Rattle.tetra_store.specs.Delaunay.{IsDelaunay}
use Rattle.curve_order.specs.Order.{IsOrder}

-- the first n of the order are in, and the others are not
pub record AreInserted (inserted : List Bool) (order : List ℕ) (n : ℕ) : Type 0 where
  pub done : (k : ℕ) → k < n → slice_index_or inserted (CORNERS + slice_index order k) false ≡ true
  pub left : (k : ℕ) → n ≤ k → k < length order → slice_index_or inserted (CORNERS + slice_index order k) false ≡ false

pub none_inserted : (inserted : List Bool) (order : List ℕ) → ((u : ℕ) → slice_index_or inserted u false ≡ nat_lt u CORNERS)
    → AreInserted inserted order 0
none_inserted inserted order h = record {
  done = λ k l. absurd (omega arith);
  left = λ k l m. h (CORNERS + slice_index order k) ∙ le-ltb (CORNERS + slice_index order k) CORNERS (omega arith);
}

pub more_inserted : (count : ℕ) (inserted : List Bool) (order : List ℕ) (n : ℕ) → IsOrder count order → n < length order
    → CORNERS + slice_index order n < length inserted → AreInserted inserted order n
    → AreInserted (set inserted (CORNERS + slice_index order n) true) order (n + 1)
more_inserted count inserted order n is l below h =
    let c = is.count in
    let p = CORNERS + slice_index order n in
    record {
      done = λ k m.
          ⊎_elim
          (λ (a : k < n).
          get_or-set_other inserted p (CORNERS + slice_index order k) true false
          (λ e. absurd (let q : k ≡ n = is.once k n (omega arith) (omega arith) (omega arith) in omega arith)) ∙ h.done k a)
          (λ (a : n ≤ k).
          let q : k ≡ n = omega arith in
          ap (λ (z : ℕ). slice_index_or (set inserted p true) (CORNERS + slice_index order z) false) q
          ∙ get_or-set_same inserted p true false below) (cases_lt k n);
      left =
          λ k m o. get_or-set_other inserted p (CORNERS + slice_index order k) true false
          (λ e. absurd (let q : k ≡ n = is.once k n (omega arith) (omega arith) (omega arith) in omega arith))
          ∙ h.left k (omega arith) o;
    }

pub all_inserted : (s : Store) (count : ℕ) (order : List ℕ) (n : ℕ) → IsStore s → length s.points ≡ CORNERS + count
    → IsOrder count order → length order ≤ n → AreInserted s.inserted order n → (u : ℕ) → u < length s.points
    → slice_index_or s.inserted u false ≡ true
all_inserted s count order n store points is l h u u_in =
    ⊎_elim (λ (a : u < CORNERS). (store.vertices.boxed.corner_in u a).1)
    (λ (a : CORNERS ≤ u).
    let z = is.all (u - CORNERS) (omega arith) in
    let e : CORNERS + slice_index order z.0 ≡ u = (let q : slice_index order z.0 ≡ u - CORNERS = z.2 in omega arith) in
    subst (λ (w : ℕ). slice_index_or s.inserted w false ≡ true) e
    (h.done z.0 (let c = is.count in let m : z.0 < count = z.1 in omega arith))) (cases_lt u CORNERS)

-- ---- the cells of the points

pub of_all : (s : Store) (points : List Point) → s.points ≡ corners ++ points
    → ((u : ℕ) → u < length s.points → slice_index_or s.inserted u false ≡ true) → IsDelaunay (vertices_of s) (links_of s.slots)
    → IsDelaunay (boxed_vertices points) (links_of s.slots)
of_all s points e h delaunay =
    let h' : (u : ℕ) → u < CORNERS + length points → slice_index_or s.inserted u false ≡ true =
    λ u l. h u (let n = ap length e ∙ vertex_count points in omega arith) in
    let d : IsDelaunay (inserted_vertices points s.inserted) (links_of s.slots) =
    subst (λ (v : Vertices). IsDelaunay v (links_of s.slots)) (vertices_are s.points points s.inserted e) delaunay in
    record {
      cells = λ id live. (let t = (links_of s.slots).at id in all_cells points s.inserted h' t.a t.b t.c t.d (d.cells id live));
      all = λ a b c d' k. d.all a b c d' (cells_all points s.inserted h' a b c d' k);
    }
