-- The laws of walks, of the cells of scanners and sights, and of a cell on a sight, as specs/WalkLaws states them.
--
-- A facet with a place of the box behind it is on no wall, so there is a cell across (met_behind), and fewer cells are
-- higher at the place than that one (walk_falls): step_law. A displaced scanner is in the plane of no facet, so the cell in
-- which it lies has it strictly in it, and no other has (scanner_law); the place near a vertex is of the one cell towards
-- the scanner, and the cell behind is the same of the reversed direction (vertex_sight_law). In a cell on the sight it comes
-- in at the vertex or through a facet, and moving on it passes a first of the planes that have the scanner behind them, or
-- no plane has (sight_law, by exit_or_end of Firsts, whose two cases here are how it comes in).
--
-- Stands on: Walk, Near, Scanners, SightSteps and SightTests.
use Rattle.std.proofs.Common.{ℕ, zero, suc, ◌<◌, ◌≡◌, refl, sym, ◌∙◌, ◌⊎◌, inl, inr, ⊎_elim, arith, true, ℤ, pos, neg_ℤ, ◌≤ℤ◌}
use Rattle.std.proofs.Common.{◌<ℤ◌, Option, Some, None, List}
use Rattle.std.proofs.lemmas.Int.{ints, by_lt_z}
use Rattle.geo_sign.specs.Rational.{RationalPoint, displaced, rational}
use Rattle.geo_sign.specs.Tetrahedron.{Tetrahedron, DirectedFacet, facet_of, turned}
use Rattle.geo_sign.specs.Vertices.{Vertices}
use Rattle.geo_sign.specs.Sights.{side_of, is_crossed, is_behind, is_cell_of}
use Rattle.geo_sign.specs.Boxes.{IsBoxed}
use Rattle.geo_sign.specs.Places.{IsInBox, IsLyingIn}
use Rattle.cell_laws.specs.Links.{AreLinked, IsBackAt}
use Rattle.cell_laws.specs.Lifts.{is_higher}
use Rattle.cell_laws.specs.Lists.{IsIn, AreCells, count}
use Rattle.geo_sign.specs.NearPlaces.{reversed, weight, towards_place, behind_place}
use Rattle.cell_laws.specs.Paths.{IsOnSight}
use Rattle.cell_laws.specs.WalkLaws.{StepLaw, ScannerLaw, VertexSightLaw, SightLaw}
use Rattle.geo_sign.proofs.Exchanges.{turned_side}
use Rattle.geo_sign.proofs.Rewritings.{IsCellOf, same_cell}
use Rattle.geo_sign.proofs.Rotations.{side_turned}
use Rattle.geo_sign.proofs.Bounds.{data_in_box}
use Rattle.cell_laws.proofs.SomeCell.{place_law}
use Rattle.cell_laws.proofs.Crossings.{IsCrossed, IsLeft, left_turned, entry_of, exit_left, left_exit, starts, ends}
use Rattle.cell_laws.proofs.Spread.{ends_apart, leads_apart}
use Rattle.cell_laws.proofs.Firsts.{IsPast, IsExit, exit_or_end}
use Rattle.cell_laws.proofs.Flood.{holds_one, weak}
use Rattle.cell_laws.proofs.Goal.{wall_outer}
use Rattle.cell_laws.proofs.Heights.{tied_generic, tied_convex}
use Rattle.cell_laws.proofs.Inside.{box_inside}
use Rattle.cell_laws.proofs.LinkedCells.{facet_same, back_same, from_facet}
use Rattle.cell_laws.proofs.Near.{IsFree, near_towards, one_towards}
use Rattle.cell_laws.proofs.Regions.{IsGeneric, IsConvex}
use Rattle.cell_laws.proofs.Scanners.{scanner_free, reversed_free, scanner_spread, scanner_in_box, near_law}
use Rattle.cell_laws.proofs.SightSteps.{all_inside, towards_past, entry_past, neg_above, at_least, one_exit, one_entry}
use Rattle.cell_laws.proofs.SightTests.{crossed_of, crossed_is, strictly_of, strictly_is, towards_of, towards_is, behind_is}
use Rattle.cell_laws.proofs.Walk.{walk_falls}

-- ---- a walk over linked cells
-- a facet of a linked cell that a place of the box is behind has a cell across
pub met_behind :
    (v : Vertices) → IsBoxed v → (live : List ℕ) (cell : ℕ → Tetrahedron) (next : ℕ → ℕ → Option ℕ) →
    AreLinked v live cell next → AreCells v live cell → (q : RationalPoint) → IsInBox q → (x k : ℕ) → IsIn live x → k < 4 →
    side_of v (facet_of (cell x) k) q <ℤ pos 0 → (y : ℕ) × (next x k ≡ Some y) × IsBackAt live cell (facet_of (cell x) k) y
met_behind v b live cell next l cells q h x k i m n = by (next x k) refl
  where
    by : (o : Option ℕ) → next x k ≡ o → (y : ℕ) × (next x k ≡ Some y) × IsBackAt live cell (facet_of (cell x) k) y
    by None e =
        let f = facet_of (cell x) k in
        let t = from_facet (cell x) k in
        let o =
        wall_outer v b t.a t.b t.c t.d (same_cell v (cell x) t (facet_same (cell x) k) (cells x i)) (l.walls x k i m e) in
        let z = box_inside v b q h f.a f.b f.c o in
        absurd (omega (arith, ints, z, n))
    by (Some y) e = (y, e, l.back x k y i m e)

pub step_law : StepLaw
step_law v b live cell next l cells q h =
    record {
      goes_on = λ x k i m n. (let z = met_behind v b live cell next l cells q h x k i m n in (z.0, z.1, z.2.listed));
      falls = falls;
      ends = λ x n. record { at = λ k. at x n k };
    }
  where
    falls :
        (x k y : ℕ) → IsIn live x → k < 4 → side_of v (facet_of (cell x) k) q <ℤ pos 0 → next x k ≡ Some y →
        count (λ z. is_higher v q (cell y) (cell z)) live < count (λ z. is_higher v q (cell x) (cell z)) live
    falls x k y i m n e =
        let r : IsBackAt live cell (facet_of (cell x) k) y = l.back x k y i m e in
        let w = back_same live cell (facet_of (cell x) k) y r in
        let t = from_facet (cell x) k in
        walk_falls v (tied_generic v b) q live cell cells x y t.a t.b t.c t.d w.0 i r.listed (facet_same (cell x) k) w.1 n

    lies : (x k : ℕ) → ¬ (side_of v (facet_of (cell x) k) q <ℤ pos 0) → pos 0 ≤ℤ side_of v (facet_of (cell x) k) q
    lies x k n = by_lt_z (side_of v (facet_of (cell x) k) q) (pos 0) (λ l. absurd (n l)) (λ l. l)

    at :
        (x : ℕ) → ((k : ℕ) → k < 4 → ¬ (side_of v (facet_of (cell x) k) q <ℤ pos 0)) → (k : ℕ) →
        pos 0 ≤ℤ side_of v (facet_of (cell x) k) q
    at x n zero = lies x 0 (n 0 (omega arith))
    at x n (suc zero) = lies x 1 (n 1 (omega arith))
    at x n (suc (suc zero)) = lies x 2 (n 2 (omega arith))
    at x n (suc (suc (suc k))) = lies x 3 (n 3 (omega arith))

-- ---- the cell of a scanner
strict :
    (v : Vertices) (s : RationalPoint) → IsFree v s weight → (t : Tetrahedron) → IsCellOf v t → IsLyingIn v t s →
    is_cell_of v s t ≡ true
strict v s f t c l = grind (arith, ints, strictly_is, by_lt_z)

pub scanner_law : ScannerLaw
scanner_law v b s h =
    let g = tied_generic v b in
    let f = scanner_free v b s (data_in_box s h) in
    record {
      lies = λ t c l. strict v (displaced s) f t c l;
      one =
          λ t r c d i j. holds_one v g t r (displaced s) c d (weak v t (displaced s) (strictly_of v (displaced s) t i))
          (strictly_of v (displaced s) r j);
      some =
          (let z = place_law v b (displaced s) (scanner_in_box s h) in
          (z.0, z.1, strict v (displaced s) f z.0 z.1 z.2));
    }

-- ---- the two cells of a sight at its vertex
pub vertex_sight_law : VertexSightLaw
vertex_sight_law v b p hp s h =
    record {
      towards = λ t c l. towards_is v p S t (near_towards v x S weight f t p hp c l);
      one_towards = λ t r c d i j. one_towards v g S weight f t r p c d (towards_of v p S t c i) (towards_of v p S r d j);
      behind = behind;
      one_behind =
          λ t r c d i j. one_towards v g R weight e t r p c d (towards_of v p R t c (sym (behind_is v p S t) ∙ i))
          (towards_of v p R r d (sym (behind_is v p S r) ∙ j));
      some = λ a.
          (let n = near_law (v.at p) s (b.data_at p a hp.0) h in
          let y = place_law v b (towards_place (v.at p) s) n.towards_in_box in
          let z = place_law v b (behind_place (v.at p) s) n.behind_in_box in
          ((y.0, y.1, towards_is v p S y.0 (near_towards v x S weight f y.0 p hp y.1 y.2)), (z.0, z.1, behind z.0 z.1 z.2)));
    }
  where
    S : RationalPoint
    S = displaced s

    R : RationalPoint
    R = reversed S

    g : IsGeneric v
    g = tied_generic v b

    x : IsConvex v
    x = tied_convex v b

    f : IsFree v S weight
    f = scanner_free v b s (data_in_box s h)

    e : IsFree v R weight
    e = reversed_free v S weight f

    behind : (t : Tetrahedron) → IsCellOf v t → IsLyingIn v t (behind_place (v.at p) s) → is_behind v p S t ≡ true
    behind t c l = behind_is v p S t ∙ towards_is v p R t (near_towards v x R weight e t p hp c l)

-- ---- a cell on a sight
-- who comes out of the turned facet leaves through the facet
pub left_of : (v : Vertices) (p : ℕ) (s : RationalPoint) (f : DirectedFacet) → is_crossed v p s (turned f) ≡ true
    → IsLeft v p s f
left_of v p s f h =
    let c : IsCrossed v p s (turned f) = crossed_of v p s (turned f) h in
    let x = c.ahead in let y = c.behind in let i = c.ab in let j = c.bc in let k = c.ca in
    let t = side_turned v f (turned f) s (inl refl) in let u = side_turned v f (turned f) (rational (v.at p)) (inl refl) in
    let ti = turned_side (v.at p) (v.at f.c) (v.at f.a) s in
    let tj = turned_side (v.at p) (v.at f.b) (v.at f.c) s in
    let tk = turned_side (v.at p) (v.at f.a) (v.at f.b) s in
    record {
      ahead = omega (arith, ints, t, x);
      behind = omega (arith, ints, u, y);
      ab = omega (arith, ints, tk, k);
      bc = omega (arith, ints, tj, j);
      ca = omega (arith, ints, ti, i);
    }

pub left_is : (v : Vertices) (p : ℕ) (s : RationalPoint) (f : DirectedFacet) → IsLeft v p s f
    → is_crossed v p s (turned f) ≡ true
left_is v p s f h = crossed_is v p s (turned f) (left_turned v p s f (turned f) (inl refl) h)

pub sight_law : SightLaw
sight_law v b p hp s h t c =
    record {
      exit_or_end = exit;
      not_both =
          λ k l i. (let a = (left_of v p S (facet_of t k) l).ahead in
          let z = (strictly_of v S t i).at k in
          absurd (omega (arith, ints, a, z)));
      one_exit =
          λ j k hj hk x y. one_exit (starts v p t) (ends v S t) j k hj hk
          (left_exit v p S t j hj c.positive (left_of v p S (facet_of t j) x))
          (left_exit v p S t k hk c.positive (left_of v p S (facet_of t k) y));
      one_entry =
          λ j k hj hk x y. one_entry (starts v p t) (ends v S t) j k hj hk
          (entry_of v p S t j hj c.positive (crossed_of v p S (facet_of t j) x))
          (entry_of v p S t k hk c.positive (crossed_of v p S (facet_of t k) y));
    }
  where
    S : RationalPoint
    S = displaced s

    on :
        (i j : ℤ) → pos 0 <ℤ i → pos 0 ≤ℤ j → IsPast (starts v p t) (ends v S t) i j →
        ((k : ℕ) × (k < 4) × (is_crossed v p S (turned (facet_of t k)) ≡ true)) ⊎ (is_cell_of v S t ≡ true)
    on i j hi hj past =
        ⊎_elim (λ (z : (l : ℕ) × (l < 4) × IsExit (starts v p t) (ends v S t) l).
        inl (z.0, z.1, left_is v p S (facet_of t z.0) (exit_left v p S t z.0 z.1 c.positive z.2)))
        (λ (z : (k : ℕ) → k < 4 → pos 0 <ℤ ends v S t k). inr (strictly_is v S t (all_inside v t S z)))
        (exit_or_end (starts v p t) (ends v S t) i j hi hj past (ends_apart v S t (scanner_spread v b s) c)
        (leads_apart v p S t (scanner_spread v b s) hp.0 c))

    exit : IsOnSight v p S t
        → ((k : ℕ) × (k < 4) × (is_crossed v p S (turned (facet_of t k)) ≡ true)) ⊎ (is_cell_of v S t ≡ true)
    exit (inl e) =
        on (pos 1) (pos 0) (let r : pos 0 <ℤ pos 1 = omega (arith, ints) in r)
        (let r : pos 0 ≤ℤ pos 0 = omega (arith, ints) in r) (towards_past v p S t c.positive (towards_of v p S t c e))
    exit (inr (k, m, e)) =
        let n = entry_of v p S t k m c.positive (crossed_of v p S (facet_of t k) e) in
        on (ends v S t k) (neg_ℤ (starts v p t k)) n.end
        (at_least (neg_ℤ (starts v p t k)) (neg_above (starts v p t k) n.start)) (entry_past v p S t k n)
