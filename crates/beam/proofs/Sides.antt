-- Which side a line of sight came in through.
--
-- A side whose facet does not have the scanner on its inner side is none of them, and the cell that is towards the scanner at
-- the sight's vertex has the scanner on the inner sides of three facets. So where the side of one vertex is excluded, either
-- the cell begins the sight and that is its vertex, or the sight came in through one of the sides that turn around the vertex
-- (came). Each of these says of two of the planes through the vertex on which side the scanner is, and no two of them
-- agree (passes_first, passes_second, passes_third): what two signs exclude is excluded (pair_before .. triple_third).
use Rattle.std.proofs.Common.{ℕ, ◌<◌, ◌≡◌, ◌≢◌, ◌⊎◌, inl, inr, ⊎_elim, refl, sym, subst, ap, ◌∙◌, arith, Bool, true, false, true≢false}
use Rattle.std.proofs.Common.{zero, suc, IsTrue, ◌↔◌, ℤ, pos, ◌<ℤ◌, List, slice_index, get_or}
use Rattle.std.proofs.lemmas.Int.{ints}
use Rattle.geo_sign.specs.Cells.{IsCell}
use Rattle.geo_sign.specs.Edges.{HasVertex}
use Rattle.geo_sign.specs.Point.{Point, origin}
use Rattle.geo_sign.specs.Rational.{RationalPoint, side, displaced}
use Rattle.geo_sign.specs.Sights.{is_crossed, is_towards}
use Rattle.geo_sign.specs.Tetrahedron.{Tetrahedron, DirectedFacet, facet, facet_of, vertex_of, IsRotated}
use Rattle.geo_sign.specs.Vertices.{Vertices}
use Rattle.geo_sign.specs.Writings.{IsVertexOf}
use Rattle.geo_sign.proofs.Exchanges.{turned_side}
use Rattle.geo_sign.proofs.Rotations.{crossed_rotated}
use Rattle.cell_laws.specs.Paths.{IsOnSight}
use Rattle.cell_laws.proofs.Sides.{on_facet}
use Rattle.cell_laws.proofs.SightTests.{crossed_of, crossed_is, towards_of}
use Rattle.tetra_store.specs.Links.{tetrahedron_from}
use Rattle.tetra_store.specs.Store.{Store, vertices_of}
use Rattle.tetra_store.proofs.Keeps.{vertex_index}
use Rattle.sight.specs.Exits.{IsEntered}
use Rattle.beam.specs.declared.plane.Plane.{Plane}
use Rattle.beam.specs.declared.ways.Ray.{Ray}
use Rattle.beam.specs.declared.ways.Turn.{Turn}
use Rattle.beam.specs.Planes.{IsPlaneOf}
use Rattle.beam.specs.Ways.{IsRayIn, IsCrossing, IsTurn, IsAhead, IsBeforePlane, AllEnter}

-- each vertex of a cell is opposite to a facet, or on it
opposite_or_on : (v : Tetrahedron) (k n : ℕ) → IsVertexOf v n → (n ≡ vertex_of v k) ⊎ HasVertex (facet_of v k) n
opposite_or_on v zero n (inl e) = inl e
opposite_or_on v zero n (inr (inl e)) = inr (inl e)
opposite_or_on v zero n (inr (inr (inl e))) = inr (inr (inr e))
opposite_or_on v zero n (inr (inr (inr e))) = inr (inr (inl e))
opposite_or_on v (suc zero) n (inl e) = inr (inl e)
opposite_or_on v (suc zero) n (inr (inl e)) = inl e
opposite_or_on v (suc zero) n (inr (inr (inl e))) = inr (inr (inl e))
opposite_or_on v (suc zero) n (inr (inr (inr e))) = inr (inr (inr e))
opposite_or_on v (suc (suc zero)) n (inl e) = inr (inl e)
opposite_or_on v (suc (suc zero)) n (inr (inl e)) = inr (inr (inr e))
opposite_or_on v (suc (suc zero)) n (inr (inr (inl e))) = inl e
opposite_or_on v (suc (suc zero)) n (inr (inr (inr e))) = inr (inr (inl e))
opposite_or_on v (suc (suc (suc k))) n (inl e) = inr (inl e)
opposite_or_on v (suc (suc (suc k))) n (inr (inl e)) = inr (inr (inl e))
opposite_or_on v (suc (suc (suc k))) n (inr (inr (inl e))) = inr (inr (inr e))
opposite_or_on v (suc (suc (suc k))) n (inr (inr (inr e))) = inl e

-- ---- the sides around a vertex, from the second on
pub moved : (u : Turn) → IsTurn u
    → IsTurn (record { around = u.around; first = u.second; second = u.third; third = u.first })
moved u h =
    record {
      around_in = h.around_in;
      first_in = h.second_in;
      second_in = h.third_in;
      third_in = h.first_in;
      first = h.second;
      second = h.third;
      third = h.first;
      all = λ k l.
          ⊎_elim (λ e. inl e) (⊎_elim (λ e. inr (inr (inr e))) (⊎_elim (λ e. inr (inl e)) (λ e. inr (inr (inl e))))) (h.all k l);
    }

-- ---- sides and planes
abbrev IsThrough : Vertices → (p : ℕ) → RationalPoint → Tetrahedron → ℕ → Type 0
IsThrough v p q t k = is_crossed v p q (facet_of t k) ≡ true

-- the side of the plane of p and an edge from vertex a on which the scanner is
abbrev past : Vertices → (p : ℕ) → RationalPoint → Tetrahedron → (a x : ℕ) → ℤ
past v p q t a x = side (v.at p) (v.at (vertex_of t a)) (v.at (vertex_of t x)) q

-- ---- what a side says of the planes
-- of the facet d y z that is crossed, for one that is written from another vertex on
passes : (v : Vertices) (p : ℕ) (q : RationalPoint) (t : Tetrahedron) (k d y z : ℕ)
    → IsRotated (facet_of t k) (facet (vertex_of t d) (vertex_of t y) (vertex_of t z)) → IsThrough v p q t k
    → (pos 0 <ℤ past v p q t d y) × (past v p q t d z <ℤ pos 0)
passes v p q t k d y z r h =
    let g = facet (vertex_of t d) (vertex_of t y) (vertex_of t z) in
    let c = crossed_of v p q g (crossed_rotated v p q (facet_of t k) g r ∙ h) in
    let b = c.ca in
    let e = turned_side (v.at p) (v.at (vertex_of t z)) (v.at (vertex_of t d)) q in
    (c.ab, omega (arith, ints, b, e))

-- the vertex around which the sides turn is on each of their facets
starts : (f : DirectedFacet) (a b c u : ℕ) → IsRotated f (facet a b c) → u ≡ a → HasVertex f u
starts f a b c u (inl r) e = inl (e ∙ ap (λ (x : DirectedFacet). x.a) r)
starts f a b c u (inr (inl r)) e = inr (inl (e ∙ ap (λ (x : DirectedFacet). x.a) r))
starts f a b c u (inr (inr r)) e = inr (inr (e ∙ ap (λ (x : DirectedFacet). x.a) r))

-- a sight does not come in through a facet that has its vertex, nor through one that has the scanner behind it
not_at : (v : Vertices) (p : ℕ) (q : RationalPoint) (t : Tetrahedron) (k : ℕ) → HasVertex (facet_of t k) p → IsThrough v p q t k → ⊥
not_at v p q t k e h =
    let a = (crossed_of v p q (facet_of t k) h).behind in let z = on_facet v (facet_of t k) p e in absurd (omega (arith, ints, a, z))

not_behind : (v : Vertices) (p : ℕ) (q : RationalPoint) (t : Tetrahedron) (k : ℕ) → ¬ IsAhead v q t k → IsThrough v p q t k → ⊥
not_behind v p q t k n h = n (crossed_of v p q (facet_of t k) h).ahead

-- ---- the ways in where the side of one vertex is excluded
-- what follows from each of the four follows
came : (v : Vertices) (p : ℕ) (q : RationalPoint) (t : Tetrahedron) (u : Turn) → IsCell v t.a t.b t.c t.d → IsTurn u
    → ¬ IsAhead v q t u.around → {A : Type 0} → (p ≡ vertex_of t u.around → is_towards v p q t ≡ true → A)
    → (IsThrough v p q t u.first → A) → (IsThrough v p q t u.second → A) → (IsThrough v p q t u.third → A) → IsOnSight v p q t → A
came v p q t u c i n {A} begins first second third (inl w) =
    let z = towards_of v p q t c w in
    ⊎_elim (λ (e : p ≡ vertex_of t u.around). begins e w)
    (λ (e : HasVertex (facet_of t u.around) p). absurd (n (z.faces u.around e)))
    (opposite_or_on t u.around p z.has)
came v p q t u c i n {A} begins first second third (inr w) = by (i.all w.0 w.1)
  where
    at : (k : ℕ) → w.0 ≡ k → IsThrough v p q t k
    at k e = subst (λ (j : ℕ). IsThrough v p q t j) e w.2

    by : (w.0 ≡ u.around) ⊎ ((w.0 ≡ u.first) ⊎ ((w.0 ≡ u.second) ⊎ (w.0 ≡ u.third))) → A
    by (inl e) = absurd (not_behind v p q t u.around n (at u.around e))
    by (inr (inl e)) = first (at u.first e)
    by (inr (inr (inl e))) = second (at u.second e)
    by (inr (inr (inr e))) = third (at u.third e)

entered : (v : Vertices) (p : ℕ) (q : RationalPoint) (t : Tetrahedron) (k : ℕ) → k < 4 → IsThrough v p q t k → IsEntered v p q t k
entered v p q t k l h = inl (l, h)

-- with a second side excluded, the sight does not begin in the cell
not_begun : (v : Vertices) (p : ℕ) (q : RationalPoint) (t : Tetrahedron) (u : Turn) → IsCell v t.a t.b t.c t.d → IsTurn u
    → ¬ IsAhead v q t u.first → p ≡ vertex_of t u.around → is_towards v p q t ≡ true → ⊥
not_begun v p q t u c i n e w =
    n ((towards_of v p q t c w).faces u.first
    (starts (facet_of t u.first) (vertex_of t u.around) (vertex_of t u.second) (vertex_of t u.third) p (i.first t) e))

-- ---- two sides
-- the plane is that through the two vertices
pub record IsEdge (v : Vertices) (t : Tetrahedron) (w : Plane) (d x : ℕ) : Type 0 where
  pub b : w.b ≡ v.at (vertex_of t d)
  pub c : w.c ≡ v.at (vertex_of t x)

before_is : (v : Vertices) (p : ℕ) (q : RationalPoint) (t : Tetrahedron) (w : Plane) (d x : ℕ) → IsEdge v t w d x
    → side (v.at p) w.b w.c q ≡ past v p q t d x
before_is v p q t w d x e =
    ap (λ (b : Point). side (v.at p) b w.c q) e.b ∙ ap (λ (c : Point). side (v.at p) (v.at (vertex_of t d)) c q) e.c

is_before : (v : Vertices) (p : ℕ) (q : RationalPoint) (t : Tetrahedron) (w : Plane) (d x : ℕ) → IsEdge v t w d x
    → pos 0 <ℤ past v p q t d x → IsBeforePlane v q w p
is_before v p q t w d x e l = let z = before_is v p q t w d x e in omega (arith, ints, z, l)

is_not : (v : Vertices) (p : ℕ) (q : RationalPoint) (t : Tetrahedron) (w : Plane) (d x : ℕ) → IsEdge v t w d x
    → past v p q t d x <ℤ pos 0 → ¬ IsBeforePlane v q w p
is_not v p q t w d x e l = λ h. (let z = before_is v p q t w d x e in absurd (omega (arith, ints, z, l, h)))

pub one_way : (v : Vertices) (q : RationalPoint) (t : Tetrahedron) (u : Turn) → IsCell v t.a t.b t.c t.d → IsTurn u
    → ¬ IsAhead v q t u.around → ¬ IsAhead v q t u.first → ¬ IsAhead v q t u.second → AllEnter v q t (λ _. Unit {0}) u.third
one_way v q t u c i n m k p on test =
    came v p q t u c i n {A = IsEntered v p q t u.third} (λ e w. absurd (not_begun v p q t u c i m e w))
    (λ h. absurd (not_behind v p q t u.first m h)) (λ h. absurd (not_behind v p q t u.second k h))
    (λ h. entered v p q t u.third i.third_in h) on

pub other_way : (v : Vertices) (q : RationalPoint) (t : Tetrahedron) (u : Turn) → IsCell v t.a t.b t.c t.d → IsTurn u
    → ¬ IsAhead v q t u.around → ¬ IsAhead v q t u.first → ¬ IsAhead v q t u.third → AllEnter v q t (λ _. Unit {0}) u.second
other_way v q t u c i n m k p on test =
    came v p q t u c i n {A = IsEntered v p q t u.second} (λ e w. absurd (not_begun v p q t u c i m e w))
    (λ h. absurd (not_behind v p q t u.first m h)) (λ h. entered v p q t u.second i.second_in h)
    (λ h. absurd (not_behind v p q t u.third k h)) on

pub pair_before : (v : Vertices) (q : RationalPoint) (t : Tetrahedron) (u : Turn) (w : Plane) → IsCell v t.a t.b t.c t.d → IsTurn u
    → ¬ IsAhead v q t u.around → ¬ IsAhead v q t u.first → IsEdge v t w u.around u.first
    → AllEnter v q t (λ p. IsBeforePlane v q w p) u.third
pair_before v q t u w c i n m d p on test =
    came v p q t u c i n {A = IsEntered v p q t u.third} (λ e o. absurd (not_begun v p q t u c i m e o))
    (λ h. absurd (not_behind v p q t u.first m h))
    (λ h. absurd (is_not v p q t w u.around u.first d (passes v p q t u.second u.around u.third u.first (i.second t) h).1 test))
    (λ h. entered v p q t u.third i.third_in h) on

pub pair_behind : (v : Vertices) (q : RationalPoint) (t : Tetrahedron) (u : Turn) (w : Plane) → IsCell v t.a t.b t.c t.d → IsTurn u
    → ¬ IsAhead v q t u.around → ¬ IsAhead v q t u.first → IsEdge v t w u.around u.first
    → AllEnter v q t (λ p. ¬ IsBeforePlane v q w p) u.second
pair_behind v q t u w c i n m d p on test =
    came v p q t u c i n {A = IsEntered v p q t u.second} (λ e o. absurd (not_begun v p q t u c i m e o))
    (λ h. absurd (not_behind v p q t u.first m h)) (λ h. entered v p q t u.second i.second_in h)
    (λ h. absurd (test (is_before v p q t w u.around u.first d (passes v p q t u.third u.around u.first u.second (i.third t) h).0))) on

-- ---- three sides
-- that of the vertex between them begins in the cell
pub begins : (v : Vertices) (q : RationalPoint) (t : Tetrahedron) (u : Turn) → IsCell v t.a t.b t.c t.d → IsTurn u
    → ¬ IsAhead v q t u.around → AllEnter v q t (λ p. p ≡ vertex_of t u.around) 4
begins v q t u c i n p on test =
    came v p q t u c i n {A = IsEntered v p q t 4} (λ e w. inr (refl, w))
    (λ h. absurd (not_at v p q t u.first (starts (facet_of t u.first) (vertex_of t u.around) (vertex_of t u.second) (vertex_of t u.third) p (i.first t) test) h))
    (λ h. absurd (not_at v p q t u.second (starts (facet_of t u.second) (vertex_of t u.around) (vertex_of t u.third) (vertex_of t u.first) p (i.second t) test) h))
    (λ h. absurd (not_at v p q t u.third (starts (facet_of t u.third) (vertex_of t u.around) (vertex_of t u.first) (vertex_of t u.second) p (i.third t) test) h)) on

-- any other came in through one of the three, which each say of two planes what is asked here
through : (v : Vertices) (p : ℕ) (q : RationalPoint) (t : Tetrahedron) (u : Turn) → IsCell v t.a t.b t.c t.d → IsTurn u
    → ¬ IsAhead v q t u.around → {A : Type 0} → p ≢ vertex_of t u.around
    → (IsThrough v p q t u.first → pos 0 <ℤ past v p q t u.around u.second → past v p q t u.around u.third <ℤ pos 0 → A)
    → (IsThrough v p q t u.second → pos 0 <ℤ past v p q t u.around u.third → past v p q t u.around u.first <ℤ pos 0 → A)
    → (IsThrough v p q t u.third → pos 0 <ℤ past v p q t u.around u.first → past v p q t u.around u.second <ℤ pos 0 → A)
    → IsOnSight v p q t → A
through v p q t u c i n {A} other first second third on =
    came v p q t u c i n {A = A} (λ e w. absurd (other e))
    (λ h. let z = passes v p q t u.first u.around u.second u.third (i.first t) h in first h z.0 z.1)
    (λ h. let z = passes v p q t u.second u.around u.third u.first (i.second t) h in second h z.0 z.1)
    (λ h. let z = passes v p q t u.third u.around u.first u.second (i.third t) h in third h z.0 z.1) on

pub triple_first : (v : Vertices) (q : RationalPoint) (t : Tetrahedron) (u : Turn) (f s : Plane) → IsCell v t.a t.b t.c t.d → IsTurn u
    → ¬ IsAhead v q t u.around → IsEdge v t f u.around u.first → IsEdge v t s u.around u.second
    → AllEnter v q t (λ p. (p ≢ vertex_of t u.around) × IsBeforePlane v q f p × IsBeforePlane v q s p) u.first
triple_first v q t u f s c i n df ds p on test =
    through v p q t u c i n {A = IsEntered v p q t u.first} test.0 (λ h a b. entered v p q t u.first i.first_in h)
    (λ h a b. absurd (is_not v p q t f u.around u.first df b test.1))
    (λ h a b. absurd (is_not v p q t s u.around u.second ds b test.2)) on

pub triple_third : (v : Vertices) (q : RationalPoint) (t : Tetrahedron) (u : Turn) (f s : Plane) → IsCell v t.a t.b t.c t.d → IsTurn u
    → ¬ IsAhead v q t u.around → IsEdge v t f u.around u.first → IsEdge v t s u.around u.second
    → AllEnter v q t (λ p. (p ≢ vertex_of t u.around) × IsBeforePlane v q f p × (¬ IsBeforePlane v q s p)) u.third
triple_third v q t u f s c i n df ds p on test =
    through v p q t u c i n {A = IsEntered v p q t u.third} test.0
    (λ h a b. absurd (test.2 (is_before v p q t s u.around u.second ds a)))
    (λ h a b. absurd (is_not v p q t f u.around u.first df b test.1)) (λ h a b. entered v p q t u.third i.third_in h) on

pub triple_second : (v : Vertices) (q : RationalPoint) (t : Tetrahedron) (u : Turn) (f e : Plane) → IsCell v t.a t.b t.c t.d → IsTurn u
    → ¬ IsAhead v q t u.around → IsEdge v t f u.around u.first → IsEdge v t e u.around u.third
    → AllEnter v q t (λ p. (p ≢ vertex_of t u.around) × (¬ IsBeforePlane v q f p) × IsBeforePlane v q e p) u.second
triple_second v q t u f e c i n df de p on test =
    through v p q t u c i n {A = IsEntered v p q t u.second} test.0
    (λ h a b. absurd (is_not v p q t e u.around u.third de b test.2)) (λ h a b. entered v p q t u.second i.second_in h)
    (λ h a b. absurd (test.1 (is_before v p q t f u.around u.first df a))) on

pub triple_first_too : (v : Vertices) (q : RationalPoint) (t : Tetrahedron) (u : Turn) (f e : Plane) → IsCell v t.a t.b t.c t.d
    → IsTurn u → ¬ IsAhead v q t u.around → IsEdge v t f u.around u.first → IsEdge v t e u.around u.third
    → AllEnter v q t (λ p. (p ≢ vertex_of t u.around) × (¬ IsBeforePlane v q f p) × (¬ IsBeforePlane v q e p)) u.first
triple_first_too v q t u f e c i n df de p on test =
    through v p q t u c i n {A = IsEntered v p q t u.first} test.0 (λ h a b. entered v p q t u.first i.first_in h)
    (λ h a b. absurd (test.2 (is_before v p q t e u.around u.third de a)))
    (λ h a b. absurd (test.1 (is_before v p q t f u.around u.first df a))) on

-- ---- what the code reads
-- a test that fails
pub not_so : {A : Type 0} (test : Bool) → test ≡ false → IsTrue test ↔ A → ¬ A
not_so {A} test e h = λ a. true≢false (sym (h.1 a) ∙ e)

-- the plane of two vertices of a cell, by the positions that were read
pub edge_of : (s : Store) (v : List ℕ) (d x : ℕ) (o : Point) (w : Plane) → d < 4 → x < 4
    → IsPlaneOf o (get_or s.points (slice_index v d) origin) (get_or s.points (slice_index v x) origin) w
    → IsEdge (vertices_of s) (tetrahedron_from v) w d x
edge_of s v d x o w l m h =
    record {
      b = h.same.1 ∙ ap (λ (n : ℕ). get_or s.points n origin) (sym (vertex_index v d l));
      c = h.same.2 ∙ ap (λ (n : ℕ). get_or s.points n origin) (sym (vertex_index v x m));
    }

-- a crossed facet by the positions of its vertices
pub crossing_is : (v : Vertices) (p : ℕ) (q : RationalPoint) (f : DirectedFacet) (a b c x : Point) → a ≡ v.at f.a → b ≡ v.at f.b
    → c ≡ v.at f.c → x ≡ v.at p → IsCrossing q a b c x → is_crossed v p q f ≡ true
crossing_is v p q f a b c x ea eb ec ex h =
    let k : IsCrossing q (v.at f.a) (v.at f.b) (v.at f.c) (v.at p) =
    subst (λ (z : Point). IsCrossing q z (v.at f.b) (v.at f.c) (v.at p)) ea
    (subst (λ (z : Point). IsCrossing q a z (v.at f.c) (v.at p)) eb
    (subst (λ (z : Point). IsCrossing q a b z (v.at p)) ec (subst (λ (z : Point). IsCrossing q a b c z) ex h))) in
    crossed_is v p q f (record { ahead = k.ahead; behind = k.behind; ab = k.ab; bc = k.bc; ca = k.ca })

pub crossing_of : (v : Vertices) (p : ℕ) (q : RationalPoint) (f : DirectedFacet) (a b c x : Point) → a ≡ v.at f.a → b ≡ v.at f.b
    → c ≡ v.at f.c → x ≡ v.at p → is_crossed v p q f ≡ true → IsCrossing q a b c x
crossing_of v p q f a b c x ea eb ec ex h =
    let k = crossed_of v p q f h in
    let z : IsCrossing q (v.at f.a) (v.at f.b) (v.at f.c) (v.at p) =
    record { ahead = k.ahead; behind = k.behind; ab = k.ab; bc = k.bc; ca = k.ca } in
    subst (λ (y : Point). IsCrossing q y b c x) (sym ea)
    (subst (λ (y : Point). IsCrossing q (v.at f.a) y c x) (sym eb)
    (subst (λ (y : Point). IsCrossing q (v.at f.a) (v.at f.b) y x) (sym ec)
    (subst (λ (y : Point). IsCrossing q (v.at f.a) (v.at f.b) (v.at f.c) y) (sym ex) z)))

-- the test of a plane, of a ray
pub before_ray : (s : Store) (o : Point) (r : Ray) (w : Plane) → IsRayIn s r → w.scanner ≡ o → (test : Bool)
    → IsTrue test ↔ (pos 0 <ℤ side r.point w.b w.c (displaced w.scanner))
    → IsTrue test ↔ IsBeforePlane (vertices_of s) (displaced o) w r.vertex
before_ray s o r w h e test is =
    subst (λ (p : Point). IsTrue test ↔ (pos 0 <ℤ side p w.b w.c (displaced o))) h.point
    (subst (λ (q : Point). IsTrue test ↔ (pos 0 <ℤ side r.point w.b w.c (displaced q))) e is)
