-- What a store keeps, in the words of the laws of Delaunay cells. The laws speak of a list of names: here it is the list of the
-- live numbers below the count of slots. Then `boxed`, `linked` and `cells` are the premises of the laws, read off the store,
-- and the second half shows that the call that decides a conflict may be asked of a cell and a vertex that is not inserted, and
-- that its answer is the sign of the power that the laws speak of.
use Rattle.std.proofs.Common.{ℕ, ◌≡◌, ◌≢◌, ◌<◌, ◌≤◌, Bool, true, false, List, length, Option, Some, refl}
use Rattle.std.proofs.Common.{sym, ap, ◌∙◌, ⊎_elim, subst, arith, slice_index_or, get_or, ℤ, pos, ◌<ℤ◌, ◌≤ℤ◌}
use Rattle.std.proofs.Common.{IsTrue, IsFalse, ◌↔◌, true≢false}
use Rattle.std.specs.Prelude.{is_some}
use Rattle.std.proofs.lemmas.Bool.{cases_lt}
use Rattle.std.proofs.lemmas.Int.{ints}
use Rattle.geo_sign.specs.Point.{Point, origin}
use Rattle.geo_sign.specs.Tetrahedron.{Tetrahedron, vertex_of}
use Rattle.geo_sign.specs.Vertices.{orientation_of, power_of}
use Rattle.geo_sign.specs.Tie.{tied_power}
use Rattle.geo_sign.specs.Conflict.{AreApart, AreBelow}
use Rattle.tetra_store.specs.declared.link.Cell.{Cell}
use Rattle.tetra_store.specs.Links.{slot_at, links_of, vertices_in, tetrahedron_from, IsLive}
use Rattle.tetra_store.specs.Store.{Store, IsStore, vertices_of}
use Rattle.tetra_store.specs.Delaunay.{IsDelaunay}
use Rattle.tetra_store.specs.Stored.{live_of}
use Rattle.tetra_store.proofs.Live.{has_live, listed_is_live}
use Rattle.geo_sign.specs.Boxes.{IsBoxed, IsNew}
use Rattle.cell_laws.specs.Lists.{IsIn, AreCells}
use Rattle.cell_laws.specs.Links.{AreLinked}
use Rattle.cell_laws.proofs.RisingRows as rows

-- ---- the list of live numbers
pub in_names : (slots : List (Option Cell)) (id : ℕ) → IsLive (links_of slots) id → IsIn (live_of slots) id
in_names slots id e = rows.is_listed (live_of slots) id (has_live slots id e)

pub of_names : (slots : List (Option Cell)) (id : ℕ) → IsIn (live_of slots) id → IsLive (links_of slots) id
of_names slots id h = listed_is_live slots id (rows.listed (live_of slots) id h)

-- ---- what is kept

pub boxed : (s : Store) → IsStore s → IsBoxed (vertices_of s)
boxed s store = store.vertices.boxed

pub linked : (s : Store) → IsStore s → AreLinked (vertices_of s) (live_of s.slots) (links_of s.slots).at (links_of s.slots).next
linked s store =
    record {
      back = λ x k y h l e. let b = store.linked.back x k y (of_names s.slots x h) l e in
          record { listed = in_names s.slots y b.live; side = b.side; in_range = b.in_range; turned = b.turned };
      walls = λ x k h l e. store.linked.walls x k (of_names s.slots x h) l e;
      apart = λ x y j k h i l m r. store.linked.apart x y j k (of_names s.slots x h) (of_names s.slots y i) l m r;
    }

pub cells : (s : Store) → IsDelaunay (vertices_of s) (links_of s.slots)
    → AreCells (vertices_of s) (live_of s.slots) (links_of s.slots).at
cells s delaunay = λ x h. delaunay.cells x (of_names s.slots x h)

pub new_vertex : (s : Store) (p : ℕ) → IsStore s → p < length s.points → slice_index_or s.inserted p false ≡ false
    → IsNew (vertices_of s) p
new_vertex s p store below out =
    record {
      above =
          ⊎_elim (λ (l : p < 8). absurd (true≢false (sym ((store.vertices.boxed.corner_in p l).1) ∙ out))) (λ (l : 8 ≤ p). l)
          (cases_lt p 8);
      below = below;
      out = out;
    }

-- ---- a cell and a vertex that is not in

pub record IsCellBeside (s : Store) (p : ℕ) (t : Tetrahedron) : Type 0 where
  pub below : (k : ℕ) → k < 4 → vertex_of t k < length s.points
  pub distinct : (j k : ℕ) → j < 4 → k < 4 → vertex_of t j ≡ vertex_of t k → j ≡ k
  pub other : (k : ℕ) → k < 4 → vertex_of t k ≢ p
  pub positive : pos 0 <ℤ orientation_of (vertices_of s) t.a t.b t.c t.d

pub beside_at : (s : Store) (p id : ℕ) → IsStore s → slice_index_or s.inserted p false ≡ false → IsLive (links_of s.slots) id
    → IsCellBeside s p ((links_of s.slots).at id)
beside_at s p id store out live =
    record {
      below = λ k l. (store.linked.has id k live l).0;
      distinct = λ j k l m e. store.linked.distinct id j k live l m e;
      other =
          λ k l e.
          true≢false (sym (store.linked.has id k live l).1 ∙ (ap (λ (u : ℕ). slice_index_or s.inserted u false) e ∙ out));
      positive = store.linked.positive id live;
    }

pub beside : (s : Store) (p id : ℕ) (c : Cell) → IsStore s → slice_index_or s.inserted p false ≡ false
    → slot_at s.slots id ≡ Some c → IsCellBeside s p (tetrahedron_from c.v)
beside s p id c store out e =
    subst (λ (t : Tetrahedron). IsCellBeside s p t) (ap vertices_in e) (beside_at s p id store out (ap is_some e))

pub apart : (s : Store) (p : ℕ) (t : Tetrahedron) (x y z w q : Point) → IsCellBeside s p t
    → AreApart (t.a, x) (t.b, y) (t.c, z) (t.d, w) (p, q)
apart s p t x y z w q h =
    record {
      a_b = λ e. absurd (let i = h.distinct 0 1 (omega arith) (omega arith) e in omega arith);
      a_c = λ e. absurd (let i = h.distinct 0 2 (omega arith) (omega arith) e in omega arith);
      a_d = λ e. absurd (let i = h.distinct 0 3 (omega arith) (omega arith) e in omega arith);
      a_p = h.other 0 (omega arith);
      b_c = λ e. absurd (let i = h.distinct 1 2 (omega arith) (omega arith) e in omega arith);
      b_d = λ e. absurd (let i = h.distinct 1 3 (omega arith) (omega arith) e in omega arith);
      b_p = h.other 1 (omega arith);
      c_d = λ e. absurd (let i = h.distinct 2 3 (omega arith) (omega arith) e in omega arith);
      c_p = h.other 2 (omega arith);
      d_p = h.other 3 (omega arith);
    }

pub all_below : (s : Store) (p : ℕ) (t : Tetrahedron) (x y z w q : Point) → IsCellBeside s p t → p < length s.points
    → AreBelow (length s.points) (t.a, x) (t.b, y) (t.c, z) (t.d, w) (p, q)
all_below s p t x y z w q h l = record {
  a_below = h.below 0 (omega arith);
  b_below = h.below 1 (omega arith);
  c_below = h.below 2 (omega arith);
  d_below = h.below 3 (omega arith);
  p_below = l;
}

pub power_same : (s : Store) (p : ℕ) (t : Tetrahedron) (x y z w q : Point) → x ≡ get_or s.points t.a origin
    → y ≡ get_or s.points t.b origin → z ≡ get_or s.points t.c origin → w ≡ get_or s.points t.d origin
    → q ≡ get_or s.points p origin
    → tied_power (length s.points) (t.a, x) (t.b, y) (t.c, z) (t.d, w) (p, q) ≡ power_of (vertices_of s) t.a t.b t.c t.d p
power_same s p t x y z w q e f g h i =
    let n = length s.points in
    ap (λ (o : Point). tied_power n (t.a, o) (t.b, y) (t.c, z) (t.d, w) (p, q)) e ∙
    (ap (λ (o : Point). tied_power n (t.a, get_or s.points t.a origin) (t.b, o) (t.c, z) (t.d, w) (p, q)) f ∙
    (ap (λ (o : Point).
    tied_power n (t.a, get_or s.points t.a origin) (t.b, get_or s.points t.b origin) (t.c, o) (t.d, w) (p, q)) g ∙
    (ap (λ (o : Point). tied_power n (t.a, get_or s.points t.a origin) (t.b, get_or s.points t.b origin)
    (t.c, get_or s.points t.c origin) (t.d, o) (p, q)) h ∙
    ap (λ (o : Point). tied_power n (t.a, get_or s.points t.a origin) (t.b, get_or s.points t.b origin)
    (t.c, get_or s.points t.c origin) (t.d, get_or s.points t.d origin) (p, o)) i)))

-- a sign that is never zero
pub outside : (r : Bool) (z : ℤ) → (IsTrue r ↔ (z <ℤ pos 0)) → (IsFalse r ↔ (pos 0 <ℤ z)) → IsFalse r ↔ (pos 0 ≤ℤ z)
outside true z h k = (λ e. absurd (true≢false e), λ l. absurd (let m = h.0 refl in omega (arith, ints, m, l)))
outside false z h k = (λ e. let m = k.0 refl in omega (arith, ints, m), λ l. refl)
