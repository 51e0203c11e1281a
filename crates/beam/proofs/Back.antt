-- The way back along a line of sight: from the scanner's cell to the cell at its vertex, facet by facet.
--
-- The way from the cell towards the scanner has each crossed facet once, and at each of them it comes from a cell that is on the
-- sight too (found). So across a crossed facet of a cell there is a cell on the sight, and the way from there is that facet and
-- then the way from the cell (outward). The last cell of the way is the scanner's (at_scanner). So what is left of a sight that
-- has been followed to a cell, outward, is what it crosses less the way from there: all of it in the scanner's cell, none of it
-- in the cell at its vertex, and one facet less with each step (yet_all, yet_none, yet_step).
use Rattle.std.proofs.Common.{ℕ, zero, suc, ◌<◌, ◌≤◌, ◌+◌, ◌≡◌, inl, inr, sym, ap, subst, ◌∙◌, arith, true, Some, List}
use Rattle.std.proofs.Common.{Option, None, [], ◌∷◌, length}
use Rattle.geo_sign.specs.declared.point.TheConstants.{CORNERS}
use Rattle.geo_sign.specs.NearPlaces.{towards_place}
use Rattle.geo_sign.specs.Point.{Point}
use Rattle.geo_sign.specs.Rational.{RationalPoint, displaced}
use Rattle.geo_sign.specs.Sights.{is_crossed, is_towards, is_cell_of}
use Rattle.geo_sign.specs.Tetrahedron.{facet_of}
use Rattle.geo_sign.proofs.Rewritings.{rewritten_back, same_lying}
use Rattle.cell_laws.specs.Links.{Side}
use Rattle.cell_laws.specs.Lists.{IsIn, count}
use Rattle.geo_sign.specs.Edges.{one_if}
use Rattle.cell_laws.specs.Paths.{IsOnSight, is_that, entered_facet}
use Rattle.cell_laws.proofs.Crossings.{left_turned}
use Rattle.cell_laws.proofs.Scanners.{near_law}
use Rattle.cell_laws.proofs.SightLaws.{left_of}
use Rattle.cell_laws.proofs.SightTests.{crossed_is}
use Rattle.cell_laws.proofs.SomeCell.{place_law}
use Rattle.tetra_store.specs.Links.{Links, links_of, IsLive, IsBack}
use Rattle.tetra_store.specs.Store.{Store, vertices_of}
use Rattle.tetra_walk.proofs.Bridge.{cells, listed, live, listing}
use Rattle.tetra_walk.proofs.Ends.{sight_cells, one_scanner_cell}
use Rattle.sight.specs.Walks.{with_rest, next_side, sides_within, sides_from}
use Rattle.sight.proofs.Paths.{IsGiven, passed, paths, IsPathOf, IsStepOf, comes_in, sides_are}
use Rattle.sight.proofs.Steps.{sight}
use Rattle.beam.specs.Beams.{is_yet}

abbrev pub IsOn : Store → (p : ℕ) → Point → ℕ → Type 0
IsOn s p o x = IsOnSight (vertices_of s) p (displaced o) ((links_of s.slots).at x)

abbrev pub IsCrossedAt : Store → (p : ℕ) → Point → Side → Type 0
IsCrossedAt s p o c = is_crossed (vertices_of s) p (displaced o) (entered_facet (links_of s.slots).at c) ≡ true

-- ---- the cell towards the scanner
pub begun : (s : Store) (p : ℕ) (o : Point) → IsGiven s p o → CORNERS ≤ p
    → (x : ℕ) × IsLive (links_of s.slots) x × (is_towards (vertices_of s) p (displaced o) ((links_of s.slots).at x) ≡ true)
begun s p o g a =
    let v = vertices_of s in
    let b = g.store.vertices.boxed in
    let n = near_law (v.at p) o (b.data_at p a g.inserted.0) g.data_point in
    let z = place_law v b (towards_place (v.at p) o) n.towards_in_box in
    let w = (listing s g.store g.delaunay).full.all z.0.a z.0.b z.0.c z.0.d z.1 in
    let x = (links_of s.slots).at w.0 in (
      w.0,
      live s.slots w.0 w.1,
      (sight_cells s g.store p g.inserted o g.data_point).towards x (cells s g.delaunay w.0 w.1)
          (same_lying v (towards_place (v.at p) o) z.0 x (rewritten_back x z.0 w.2) z.2),
    )

-- ---- a facet of the way
-- the sight comes through the facet of a step
step_crossed : (s : Store) (p : ℕ) (o : Point) (x : ℕ) (c : Side) → IsStepOf s p o x c → IsCrossedAt s p o c
step_crossed s p o x c t =
    let v = vertices_of s in let q : RationalPoint = displaced o in let f = facet_of ((links_of s.slots).at x) t.leaving in
    let g = entered_facet (links_of s.slots).at c in
    crossed_is v p q g (left_turned v p q f g t.turned (left_of v p q f t.left))

-- the cell z before it on the way cs, and the way after it
record IsFound (s : Store) (p : ℕ) (o : Point) (cs : List Side) (c : Side) (z : ℕ) : Type 0 where
  live : IsLive (links_of s.slots) z
  on : IsOn s p o z
  step : IsStepOf s p o z c
  rest : List Side
  path : IsPathOf s p o c.at rest
  few : (d : Side) → count (is_that d) (c ∷ rest) ≤ count (is_that d) cs

found : (s : Store) (p : ℕ) (o : Point) (cs : List Side) (x : ℕ) → IsLive (links_of s.slots) x → IsOn s p o x
    → IsPathOf s p o x cs → (c : Side) → IsIn cs c → (z : ℕ) × IsFound s p o cs c z
found s p o [] x l on h c i = absurd i
found s p o (d ∷ ds) x l on h c (inl e) =
    subst (λ (k : Side). (z : ℕ) × IsFound s p o (d ∷ ds) k z) e
    (x, record { live = l; on = on; step = h.0; rest = ds; path = h.1; few = λ k. omega arith })
found s p o (d ∷ ds) x l on h c (inr i) =
    let t : IsStepOf s p o x d = h.0 in
    let z =
    found s p o ds d.at (live s.slots d.at t.listed) (inr (d.side, t.side_below, step_crossed s p o x d t)) h.1 c i in
    let f : IsFound s p o ds c z.0 = z.1 in (
      z.0,
      record {
        live = f.live;
        on = f.on;
        step = f.step;
        rest = f.rest;
        path = f.path;
        few = λ k. (let m = f.few k in omega (arith, m));
      },
    )

-- ---- a step outward
-- across the crossed facet c there is the cell z, on the sight, from which the way is c and then that from the cell of c
pub record IsOutward (s : Store) (p : ℕ) (o : Point) (c : Side) (z : ℕ) : Type 0 where
  pub across : (links_of s.slots).next c.at c.side ≡ Some z
  pub live : IsLive (links_of s.slots) z
  pub on : IsOn s p o z
  pub sides : sides_from s p o z ≡ c ∷ sides_from s p o c.at
  pub few : (d : Side) → IsLive (links_of s.slots) d.at → d.side < 4
      → count (is_that d) (sides_from s p o z)
      ≤ one_if (is_crossed (vertices_of s) p (displaced o) (entered_facet (links_of s.slots).at d))

pub outward : (s : Store) (p : ℕ) (o : Point) → IsGiven s p o → CORNERS ≤ p → (c : Side) → IsLive (links_of s.slots) c.at
    → c.side < 4 → IsCrossedAt s p o c → (z : ℕ) × IsOutward s p o c z
outward s p o g a c l b h = (w.0, out)
  where
    links : Links
    links = links_of s.slots

    first : (x : ℕ) × IsLive links x × (is_towards (vertices_of s) p (displaced o) (links.at x) ≡ true)
    first = begun s p o g a

    path : (cs : List Side) × IsPathOf s p o first.0 cs
    path = (paths s p o g).some first.0 (listed s.slots first.0 first.1) (inl first.2)

    w : (z : ℕ) × IsFound s p o path.0 c z
    w =
        found s p o path.0 first.0 first.1 (inl first.2) path.1 c
        ((paths s p o g).all first.0 path.0 (listed s.slots first.0 first.1) first.2 path.1 c (listed s.slots c.at l) b h)

    f : IsFound s p o path.0 c w.0
    f = w.1

    t : IsStepOf s p o w.0 c
    t = f.step

    back : IsBack links w.0 t.leaving c.at
    back = g.store.linked.back w.0 t.leaving c.at f.live t.leaving_below t.across

    same : back.side ≡ c.side
    same =
        (passed s p o g c.at l).one_entry back.side c.side back.in_range b
        (comes_in s p o g.store w.0 t.leaving c.at back.side f.live (record { side_in = t.leaving_below; left = t.left }) t.across
        back.in_range back.named).1 h

    way : sides_from s p o w.0 ≡ c ∷ f.rest
    way = sides_are s p o g (c ∷ f.rest) w.0 f.live (t, f.path)

    out : IsOutward s p o c w.0
    out =
        record {
          across = subst (λ (k : ℕ). links.next c.at k ≡ Some w.0) same back.named;
          live = f.live;
          on = f.on;
          sides = way ∙ ap (λ (ds : List Side). c ∷ ds) (sym (sides_are s p o g f.rest c.at l f.path));
          few = λ d m k.
              (let e : count (is_that d) (sides_from s p o w.0) ≡ count (is_that d) (c ∷ f.rest) = ap (count (is_that d)) way in
              let i = f.few d in
              let j = (paths s p o g).counted first.0 path.0 (listed s.slots first.0 first.1) first.2 path.1 d (listed s.slots d.at m) k in
              omega (arith, e, i, j));
        }

-- ---- the scanner's cell
last : (s : Store) (p : ℕ) (o : Point) (cs : List Side) (x : ℕ) → IsLive (links_of s.slots) x → IsOn s p o x → IsPathOf s p o x cs
    → (z : ℕ) × IsLive (links_of s.slots) z × IsOn s p o z
    × (is_cell_of (vertices_of s) (displaced o) ((links_of s.slots).at z) ≡ true)
last s p o [] x l on h = (x, l, on, h)
last s p o (d ∷ ds) x l on h =
    let t : IsStepOf s p o x d = h.0 in
    last s p o ds d.at (live s.slots d.at t.listed) (inr (d.side, t.side_below, step_crossed s p o x d t)) h.1

pub at_scanner : (s : Store) (p : ℕ) (o : Point) → IsGiven s p o → CORNERS ≤ p → (e : ℕ) → IsLive (links_of s.slots) e
    → is_cell_of (vertices_of s) (displaced o) ((links_of s.slots).at e) ≡ true → IsOn s p o e
at_scanner s p o g a e l h =
    let first = begun s p o g a in
    let path : (cs : List Side) × IsPathOf s p o first.0 cs =
    (paths s p o g).some first.0 (listed s.slots first.0 first.1) (inl first.2) in
    let z = last s p o path.0 first.0 first.1 (inl first.2) path.1 in
    subst (λ (x : ℕ). IsOn s p o x)
    (one_scanner_cell s g.store g.delaunay o g.data_point z.0 e z.1 l z.3 h) z.2

-- ---- what is yet to be crossed
abbrev pub side_at : (id k : ℕ) → Side
side_at id k = record { at = id; side = k }

-- all in the scanner's cell
pub yet_all : (s : Store) (p : ℕ) (o : Point) → IsGiven s p o → (e : ℕ) → IsLive (links_of s.slots) e
    → is_cell_of (vertices_of s) (displaced o) ((links_of s.slots).at e) ≡ true → (id k : ℕ)
    → is_yet s o id k e p ≡ one_if (is_crossed (vertices_of s) p (displaced o) (facet_of ((links_of s.slots).at id) k))
yet_all s p o g e l h id k =
    let z : count (is_that (side_at id k)) (sides_from s p o e) ≡ 0 =
    ap (count (is_that (side_at id k))) (sides_are s p o g [] e l h) in
    omega (arith, z)

-- none in the cell at the vertex
pub yet_none : (s : Store) (p : ℕ) (o : Point) → IsGiven s p o → (y : ℕ) → IsLive (links_of s.slots) y
    → is_towards (vertices_of s) p (displaced o) ((links_of s.slots).at y) ≡ true → (id k : ℕ) → IsLive (links_of s.slots) id
    → k < 4 → is_yet s o id k y p ≡ 0
yet_none s p o g y l h id k m b = let z = (sight s p o y g l h).counted (side_at id k) m b in omega (arith, z)

-- one facet less with each step
pub yet_step : (s : Store) (p : ℕ) (o : Point) (y j z : ℕ) → IsOutward s p o (side_at y j) z → (id k : ℕ)
    → IsLive (links_of s.slots) id → k < 4
    → is_yet s o id k y p ≡ is_yet s o id k z p + one_if (is_that (side_at id k) (side_at y j))
yet_step s p o y j z w id k m b =
    let d = side_at id k in let c = side_at y j in
    let e : count (is_that d) (sides_from s p o z) ≡ one_if (is_that d c) + count (is_that d) (sides_from s p o y) =
    ap (count (is_that d)) w.sides in
    let f = w.few d m b in
    omega (arith, e, f)

-- ---- how many steps there are
short_within : (s : Store) (p : ℕ) (o : Point) (n x : ℕ) → length (sides_within s p o n x) ≤ n
short_within s p o zero x = omega arith
short_within s p o (suc n) x = by (λ y. short_within s p o n y) (next_side s p o x)
  where
    by : ((y : ℕ) → length (sides_within s p o n y) ≤ n) → (d : Option Side) → length (with_rest d (sides_within s p o n)) ≤ suc n
    by i None = omega arith
    by i (Some c) = let j = i c.at in omega (arith, j)

pub short : (s : Store) (p : ℕ) (o : Point) (x : ℕ) → length (sides_from s p o x) ≤ length s.slots
unfolding sides_from
short s p o x = short_within s p o (length s.slots) x

pub longer : (s : Store) (p : ℕ) (o : Point) (c : Side) (z : ℕ) → IsOutward s p o c z
    → length (sides_from s p o z) ≡ suc (length (sides_from s p o c.at))
longer s p o c z w = ap length w.sides
