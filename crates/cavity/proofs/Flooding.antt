-- The flood from its first cell to its last side.
--
-- It starts with one cell and no side crossed. A visit crosses the four sides of the next cell in the list, each in one of the
-- three ways, and what the flood keeps is kept by each. The cells are distinct and live, so there are no more of them than the
-- store has slots: this ends the loop. Once all sides are crossed, the flood is full.
use Rattle.std.proofs.Common.{ℕ, ◌≡◌, ◌<◌, ◌≤◌, ◌+◌, ◌*◌, List, [], ◌∷◌, ◌++◌, length, Option, refl, sym, ap, ◌∙◌, inl, inr}
use Rattle.std.proofs.Common.{subst, arith, slice_index}
use Rattle.geo_sign.specs.Tetrahedron as geo
use Rattle.geo_sign.specs.Tetrahedron.{facet_at, facet_of}
use Rattle.geo_sign.specs.Vertices.{Vertices}
use Rattle.tetra_store.specs.declared.fan.Facet.{Facet}
use Rattle.tetra_store.specs.Links.{Links, tetrahedron_from, IsLive, IsLinked}
use Rattle.geo_sign.specs.Boxes.{IsInConflict}
use Rattle.cavity.specs.Flood.{IsCrossed, IsFlooding}
use Rattle.cavity.proofs.Growing.{longer, cell_left, only_one, contains_at}
use Rattle.cavity.proofs.Crossing.{reached, entered, left}

module _ (v : Vertices) (links : Links) (p from : ℕ) where
  -- ---- any of the three

  pub crossed : (linked : IsLinked v links) (cells : List ℕ) (fan : List Facet) (cells' : List ℕ) (fan' : List Facet) (j k : ℕ)
      (f : List ℕ) (across : Option ℕ) → j < length cells → k < 4
      → facet_at f ≡ facet_of (links.at (slice_index cells j)) k → across ≡ links.next (slice_index cells j) k
      → IsFlooding v links p from cells fan (4 * j + k) → IsCrossed v links p f across cells fan cells' fan'
      → IsFlooding v links p from cells' fan' (4 * j + k + 1)
  crossed linked cells fan cells' fan' j k f across j_in k_in facet_is across_is h (inl z) =
      subst (λ (c : List ℕ). IsFlooding v links p from c fan' (4 * j + k + 1)) (sym z.cells_same)
      (subst (λ (g : List Facet). IsFlooding v links p from cells g (4 * j + k + 1)) (sym z.fan_same)
      (reached v links p from cells fan j k z.cell j_in k_in (sym across_is ∙ z.is) z.listed h))
  crossed linked cells fan cells' fan' j k f across j_in k_in facet_is across_is h (inr (inl z)) =
      let e = sym across_is ∙ z.is in
      let x_live = h.live (slice_index cells j) (contains_at cells j j_in) in
      subst (λ (c : List ℕ). IsFlooding v links p from c fan' (4 * j + k + 1)) (sym z.cells_more)
      (subst (λ (g : List Facet). IsFlooding v links p from (cells ++ z.cell ∷ []) g (4 * j + k + 1)) (sym z.fan_same)
      (entered v links p from cells fan j k z.cell j_in k_in e (linked.back (slice_index cells j) k z.cell x_live k_in e).live
      z.conflict z.new h))
  crossed linked cells fan cells' fan' j k f across j_in k_in facet_is across_is h (inr (inr z)) =
      subst (λ (c : List ℕ). IsFlooding v links p from c fan' (4 * j + k + 1)) (sym z.cells_same)
      (subst (λ (g : List Facet). IsFlooding v links p from cells g (4 * j + k + 1)) (sym z.fan_more)
      (left v links p from linked cells fan j k f across j_in k_in facet_is across_is z.clear h))

  -- cells only come
  pub grown : (cells : List ℕ) (fan : List Facet) (cells' : List ℕ) (fan' : List Facet) (f : List ℕ) (across : Option ℕ)
      → IsCrossed v links p f across cells fan cells' fan' → (i : ℕ) → i < length cells
      → (i < length cells') × (slice_index cells' i ≡ slice_index cells i)
  grown cells fan cells' fan' f across (inl z) i l =
      (let e = ap length z.cells_same in omega arith, ap (λ (c : List ℕ). slice_index c i) z.cells_same)
  grown cells fan cells' fan' f across (inr (inl z)) i l = (
    let e = ap length z.cells_more ∙ longer cells z.cell in
        omega arith,
    ap (λ (c : List ℕ). slice_index c i) z.cells_more ∙ cell_left cells z.cell i l,
  )
  grown cells fan cells' fan' f across (inr (inr z)) i l =
      (let e = ap length z.cells_same in omega arith, ap (λ (c : List ℕ). slice_index c i) z.cells_same)

  pub started : IsLive links from → IsInConflict v p (links.at from) → IsFlooding v links p from (from ∷ []) [] 0
  started live conflict = record {
    start = (0, omega arith, refl);
    live = λ x h. subst (λ (z : ℕ). IsLive links z) (sym (only_one from x h)) live;
    conflict = λ x h. subst (λ (z : ℕ). IsInConflict v p (links.at z)) (sym (only_one from x h)) conflict;
    distinct = λ j k l m e. omega arith;
    rim = λ i m. absurd (omega arith);
    passed = λ a b l m o. absurd (omega arith);
    once = λ a b l m t. absurd (omega arith);
  }

-- ---- four sides

pub visited : (v : Vertices) (links : Links) (p from : ℕ) (linked : IsLinked v links) (id j : ℕ) (w : List ℕ)
    (o o' o'' o''' : Option ℕ) (c c' c'' c''' c'''' : List ℕ) (g g' g'' g''' g'''' : List Facet)
    → links.at id ≡ tetrahedron_from w
    → o ≡ links.next id 0 → o' ≡ links.next id 1 → o'' ≡ links.next id 2 → o''' ≡ links.next id 3
    → IsCrossed v links p (slice_index w 1 ∷ slice_index w 3 ∷ slice_index w 2 ∷ []) o c g c' g'
    → IsCrossed v links p (slice_index w 0 ∷ slice_index w 2 ∷ slice_index w 3 ∷ []) o' c' g' c'' g''
    → IsCrossed v links p (slice_index w 0 ∷ slice_index w 3 ∷ slice_index w 1 ∷ []) o'' c'' g'' c''' g'''
    → IsCrossed v links p (slice_index w 0 ∷ slice_index w 1 ∷ slice_index w 2 ∷ []) o''' c''' g''' c'''' g'''' → j < length c
    → slice_index c j ≡ id → IsFlooding v links p from c g (4 * j) → IsFlooding v links p from c'''' g'''' (4 * j + 4)
visited v links p from linked id j w o o' o'' o''' c c' c'' c''' c'''' g g' g'' g''' g'''' at a a' a'' a''' x x' x''
    x''' l e f =
    let m = grown v links p from c g c' g' _ o x j l in
    let m' = grown v links p from c' g' c'' g'' _ o' x' j m.0 in
    let m'' = grown v links p from c'' g'' c''' g''' _ o'' x'' j m'.0 in
    let e' : slice_index c' j ≡ id = m.1 ∙ e in
    let e'' : slice_index c'' j ≡ id = m'.1 ∙ e' in
    let e''' : slice_index c''' j ≡ id = m''.1 ∙ e'' in
    let facet : (z k : ℕ) → z ≡ id → facet_of (tetrahedron_from w) k ≡ facet_of (links.at z) k =
    λ z k q. sym (ap (λ (t : geo.Tetrahedron). facet_of t k) at) ∙ ap (λ (y : ℕ). facet_of (links.at y) k) (sym q) in
    let next : (z k : ℕ) (b : Option ℕ) → z ≡ id → b ≡ links.next id k → b ≡ links.next z k =
    λ z k b q r. r ∙ ap (λ (y : ℕ). links.next y k) (sym q) in
    let to : (d : List ℕ) (h : List Facet) (n n' : ℕ) → n ≡ n' → IsFlooding v links p from d h n
    → IsFlooding v links p from d h n' = λ d h n n' q. subst (λ (z : ℕ). IsFlooding v links p from d h z) q in
    let f0 = to c g (4 * j) (4 * j + 0) (omega arith) f in
    let f1 =
    crossed v links p from linked c g c' g' j 0 _ o l (omega arith) (facet (slice_index c j) 0 e)
    (next (slice_index c j) 0 o e a) f0 x in
    let f2 =
    crossed v links p from linked c' g' c'' g'' j 1 _ o' m.0 (omega arith) (facet (slice_index c' j) 1 e')
    (next (slice_index c' j) 1 o' e' a') (to c' g' (4 * j + 0 + 1) (4 * j + 1) (omega arith) f1) x' in
    let f3 =
    crossed v links p from linked c'' g'' c''' g''' j 2 _ o'' m'.0 (omega arith) (facet (slice_index c'' j) 2 e'')
    (next (slice_index c'' j) 2 o'' e'' a'') (to c'' g'' (4 * j + 1 + 1) (4 * j + 2) (omega arith) f2) x'' in
    let f4 =
    crossed v links p from linked c''' g''' c'''' g'''' j 3 _ o''' m''.0 (omega arith) (facet (slice_index c''' j) 3 e''')
    (next (slice_index c''' j) 3 o''' e''' a''') (to c''' g''' (4 * j + 2 + 1) (4 * j + 3) (omega arith) f3) x''' in
    to c'''' g'''' (4 * j + 3 + 1) (4 * j + 4) (omega arith) f4

-- all sides
pub full : (v : Vertices) (links : Links) (p from : ℕ) (cells : List ℕ) (fan : List Facet) (n : ℕ) → 4 * length cells ≤ n
    → IsFlooding v links p from cells fan n → IsFlooding v links p from cells fan (4 * length cells)
full v links p from cells fan n l f = record {
  start = f.start;
  live = f.live;
  conflict = f.conflict;
  distinct = f.distinct;
  rim = λ i m. let r = f.rim i m in
      record {
        cell = r.cell;
        side = r.side;
        cell_in = r.cell_in;
        side_in = r.side_in;
        before = let a = r.cell_in in let b = r.side_in in omega arith;
        facet = r.facet;
        outer = r.outer;
        clear = r.clear;
      };
  passed = λ a b m k o. f.passed a b m k (omega arith);
  once = f.once;
}
