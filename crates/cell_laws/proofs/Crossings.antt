-- Where a sight crosses the facets of a cell. The sight begins at a vertex p and ends at the place s. A cell's facet k has
-- the side p k of the vertex and s k of the place; the sides of the edges are the minors of these.
--
-- Each edge of facet l is shared with one other facet k, and the cell's orientation times the side of that edge is p k * s l
-- - p l * s k: twelve identities by multiplying out (edge_ab, edge_bc, edge_ca). So that the sight passes the three edges of
-- facet l on their inner sides says that it is on the inner side of the three other planes where it passes that of l, on its
-- way in (IsEntry, entry_of) or on its way out (IsExit, exit_left and left_exit), in the numbers that Firsts speaks of.
-- Turned round, an exit of one cell is a crossed facet of the next (left_turned).
--
-- Stands on: Sides, and Firsts (the minors).
use Rattle.std.proofs.Common.{ℕ, zero, suc, ◌<◌, ◌≡◌, ◌≢◌, refl, sym, subst, inl, inr, ◌⊎◌, arith, ℤ, pos, ◌*ℤ◌, ◌<ℤ◌}
use Rattle.std.proofs.Common.{List, [], ◌∷◌, true, not, nat_lt, ◌&&◌, ◌==◌}
use Rattle.std.proofs.lemmas.Bool.{both_ways, eq-eqb, ltb-true, not-true}
use Rattle.std.proofs.lemmas.Int.{ints}
use Rattle.geo_sign.specs.Polynomial.{constant, difference, Polynomial, product, variable}
use Rattle.geo_sign.proofs.Ring.{ring}
use Rattle.geo_sign.specs.Orientation.{orientation}
use Rattle.geo_sign.specs.Point.{Point}
use Rattle.geo_sign.specs.Rational.{rational, RationalPoint, side}
use Rattle.geo_sign.proofs.Written.{coordinates, orientation', RationalSymbols, side', Symbols, symbols}
use Rattle.geo_sign.specs.Sights.{side_of}
use Rattle.geo_sign.specs.Tetrahedron.{DirectedFacet, facet, facet_of, IsTurned, Tetrahedron}
use Rattle.geo_sign.specs.Vertices.{Vertices}
use Rattle.geo_sign.proofs.Exchanges.{turned_side}
use Rattle.geo_sign.proofs.Rewritings.{orientation_at}
use Rattle.geo_sign.proofs.Booleans.{every, every_at}
use Rattle.geo_sign.proofs.Rotations.{round, side_rotated, side_turned}
use Rattle.cell_laws.proofs.Firsts.{IsExit, lead_of}
use Rattle.cell_laws.proofs.Order.{factor_below, mul_below, mul_positive}
use Rattle.cell_laws.proofs.Sides.{inward}

-- the sides of a vertex, and of the scanner's place, of a cell's facets
abbrev pub starts : Vertices → ℕ → Tetrahedron → ℕ → ℤ
starts v p cell k = inward v cell k (rational (v.at p))

abbrev pub ends : Vertices → RationalPoint → Tetrahedron → ℕ → ℤ
ends v s cell k = inward v cell k s

-- the sight goes through f, from its outer side to its inner side
pub record IsCrossed (v : Vertices) (p : ℕ) (s : RationalPoint) (f : DirectedFacet) : Type 0 where
  pub ahead : pos 0 <ℤ side_of v f s
  pub behind : side_of v f (rational (v.at p)) <ℤ pos 0
  pub ab : pos 0 <ℤ side (v.at p) (v.at f.a) (v.at f.b) s
  pub bc : pos 0 <ℤ side (v.at p) (v.at f.b) (v.at f.c) s
  pub ca : pos 0 <ℤ side (v.at p) (v.at f.c) (v.at f.a) s

-- the same from its inner side to its outer side
pub record IsLeft (v : Vertices) (p : ℕ) (s : RationalPoint) (f : DirectedFacet) : Type 0 where
  pub ahead : side_of v f s <ℤ pos 0
  pub behind : pos 0 <ℤ side_of v f (rational (v.at p))
  pub ab : side (v.at p) (v.at f.a) (v.at f.b) s <ℤ pos 0
  pub bc : side (v.at p) (v.at f.b) (v.at f.c) s <ℤ pos 0
  pub ca : side (v.at p) (v.at f.c) (v.at f.a) s <ℤ pos 0

flipped : (p a b : Point) (s : RationalPoint) → side p a b s <ℤ pos 0 → pos 0 <ℤ side p b a s
flipped p a b s h = let e = turned_side p a b s in omega (arith, ints, e, h)

-- a crossed facet may be written from its next vertex on
crossed_round : (v : Vertices) (p : ℕ) (s : RationalPoint) (f : DirectedFacet) → IsCrossed v p s f → IsCrossed v p s (round f)
crossed_round v p s f h =
    record {
      ahead = subst (λ (z : ℤ). pos 0 <ℤ z) (sym (side_rotated v f (round f) s (inr (inl refl)))) h.ahead;
      behind = subst (λ (z : ℤ). z <ℤ pos 0) (sym (side_rotated v f (round f) (rational (v.at p)) (inr (inl refl)))) h.behind;
      ab = h.bc;
      bc = h.ca;
      ca = h.ab;
    }

-- who leaves through a facet enters through the turned one
pub left_turned :
    (v : Vertices) (p : ℕ) (s : RationalPoint) (f g : DirectedFacet) → IsTurned f g → IsLeft v p s f → IsCrossed v p s g
left_turned v p s f g r h = by r
  where
    first : IsCrossed v p s (facet f.a f.c f.b)
    first =
        let x = h.ahead in
        let y = h.behind in
        let t = side_turned v f (facet f.a f.c f.b) s (inl refl) in
        let u = side_turned v f (facet f.a f.c f.b) (rational (v.at p)) (inl refl) in
        record {
          ahead = omega (arith, ints, t, x);
          behind = omega (arith, ints, u, y);
          ab = flipped (v.at p) (v.at f.c) (v.at f.a) s h.ca;
          bc = flipped (v.at p) (v.at f.b) (v.at f.c) s h.bc;
          ca = flipped (v.at p) (v.at f.a) (v.at f.b) s h.ab;
        }

    second : IsCrossed v p s (facet f.c f.b f.a)
    second = crossed_round v p s (facet f.a f.c f.b) first

    by : IsTurned f g → IsCrossed v p s g
    by (inl e) = subst (λ (f : DirectedFacet). IsCrossed v p s f) (sym e) first
    by (inr (inl e)) = subst (λ (f : DirectedFacet). IsCrossed v p s f) (sym e) second
    by (inr (inr e)) =
        subst (λ (f : DirectedFacet). IsCrossed v p s f) (sym e) (crossed_round v p s (facet f.c f.b f.a) second)

-- ---- the edges of a facet, by the other facets that have them

-- the index of that vertex of facet l
abbrev pub first_of : ℕ → ℕ
first_of zero = 1
first_of (suc zero) = 0
first_of (suc (suc zero)) = 0
first_of (suc (suc (suc k))) = 0

-- the index of that vertex of facet l
abbrev pub second_of : ℕ → ℕ
second_of zero = 3
second_of (suc zero) = 2
second_of (suc (suc zero)) = 3
second_of (suc (suc (suc k))) = 1

-- the index of that vertex of facet l
abbrev pub third_of : ℕ → ℕ
third_of zero = 2
third_of (suc zero) = 3
third_of (suc (suc zero)) = 1
third_of (suc (suc (suc k))) = 2

abbrev face' : ℕ → RationalSymbols → Polynomial
face' zero q = side' (symbols 3) (symbols 9) (symbols 6) q
face' (suc zero) q = side' (symbols 0) (symbols 6) (symbols 9) q
face' (suc (suc zero)) q = side' (symbols 0) (symbols 9) (symbols 3) q
face' (suc (suc (suc k))) q = side' (symbols 0) (symbols 3) (symbols 6) q

abbrev start' : RationalSymbols
start' = record { at = symbols 12; over = constant (pos 1) }

abbrev end' : RationalSymbols
end' = record { at = symbols 15; over = variable 18 }

abbrev edge' : Symbols → Symbols → Polynomial
edge' x y = product (orientation' (symbols 0) (symbols 3) (symbols 6) (symbols 9)) (side' (symbols 12) x y end')

abbrev lead' : ℕ → ℕ → Polynomial
lead' l k = difference (product (face' k start') (face' l end')) (product (face' l start') (face' k end'))

abbrev numbers : Vertices → ℕ → RationalPoint → Tetrahedron → List ℤ
numbers v p s cell =
    coordinates (v.at cell.a)
    (coordinates (v.at cell.b)
    (coordinates (v.at cell.c) (coordinates (v.at cell.d) (coordinates (v.at p) (coordinates s.at (s.over ∷ []))))))

pub edge_ab :
    (v : Vertices) (p : ℕ) (s : RationalPoint) (cell : Tetrahedron) (l : ℕ) →
    orientation_at v cell *ℤ side (v.at p) (v.at (facet_of cell l).a) (v.at (facet_of cell l).b) s ≡
    lead_of (starts v p cell) (ends v s cell) l (third_of l)
unfolding side orientation
edge_ab v p s cell zero = ring (numbers v p s cell) (edge' (symbols 3) (symbols 9)) (lead' 0 2) tt
edge_ab v p s cell (suc zero) = ring (numbers v p s cell) (edge' (symbols 0) (symbols 6)) (lead' 1 3) tt
edge_ab v p s cell (suc (suc zero)) = ring (numbers v p s cell) (edge' (symbols 0) (symbols 9)) (lead' 2 1) tt
edge_ab v p s cell (suc (suc (suc k))) = ring (numbers v p s cell) (edge' (symbols 0) (symbols 3)) (lead' 3 2) tt

pub edge_bc :
    (v : Vertices) (p : ℕ) (s : RationalPoint) (cell : Tetrahedron) (l : ℕ) →
    orientation_at v cell *ℤ side (v.at p) (v.at (facet_of cell l).b) (v.at (facet_of cell l).c) s ≡
    lead_of (starts v p cell) (ends v s cell) l (first_of l)
unfolding side orientation
edge_bc v p s cell zero = ring (numbers v p s cell) (edge' (symbols 9) (symbols 6)) (lead' 0 1) tt
edge_bc v p s cell (suc zero) = ring (numbers v p s cell) (edge' (symbols 6) (symbols 9)) (lead' 1 0) tt
edge_bc v p s cell (suc (suc zero)) = ring (numbers v p s cell) (edge' (symbols 9) (symbols 3)) (lead' 2 0) tt
edge_bc v p s cell (suc (suc (suc k))) = ring (numbers v p s cell) (edge' (symbols 3) (symbols 6)) (lead' 3 0) tt

pub edge_ca :
    (v : Vertices) (p : ℕ) (s : RationalPoint) (cell : Tetrahedron) (l : ℕ) →
    orientation_at v cell *ℤ side (v.at p) (v.at (facet_of cell l).c) (v.at (facet_of cell l).a) s ≡
    lead_of (starts v p cell) (ends v s cell) l (second_of l)
unfolding side orientation
edge_ca v p s cell zero = ring (numbers v p s cell) (edge' (symbols 6) (symbols 3)) (lead' 0 3) tt
edge_ca v p s cell (suc zero) = ring (numbers v p s cell) (edge' (symbols 9) (symbols 0)) (lead' 1 2) tt
edge_ca v p s cell (suc (suc zero)) = ring (numbers v p s cell) (edge' (symbols 3) (symbols 0)) (lead' 2 3) tt
edge_ca v p s cell (suc (suc (suc k))) = ring (numbers v p s cell) (edge' (symbols 6) (symbols 0)) (lead' 3 1) tt

-- each other index is one of the three
pub other_index : (l k : ℕ) → l < 4 → k < 4 → k ≢ l → (k ≡ third_of l) ⊎ ((k ≡ first_of l) ⊎ (k ≡ second_of l))
other_index zero zero a b n = absurd (n refl)
other_index zero (suc zero) a b n = inr (inl refl)
other_index zero (suc (suc zero)) a b n = inl refl
other_index zero (suc (suc (suc zero))) a b n = inr (inr refl)
other_index zero (suc (suc (suc (suc k)))) a b n = absurd (omega (arith, b))
other_index (suc zero) zero a b n = inr (inl refl)
other_index (suc zero) (suc zero) a b n = absurd (n refl)
other_index (suc zero) (suc (suc zero)) a b n = inr (inr refl)
other_index (suc zero) (suc (suc (suc zero))) a b n = inl refl
other_index (suc zero) (suc (suc (suc (suc k)))) a b n = absurd (omega (arith, b))
other_index (suc (suc zero)) zero a b n = inr (inl refl)
other_index (suc (suc zero)) (suc zero) a b n = inl refl
other_index (suc (suc zero)) (suc (suc zero)) a b n = absurd (n refl)
other_index (suc (suc zero)) (suc (suc (suc zero))) a b n = inr (inr refl)
other_index (suc (suc zero)) (suc (suc (suc (suc k)))) a b n = absurd (omega (arith, b))
other_index (suc (suc (suc zero))) zero a b n = inr (inl refl)
other_index (suc (suc (suc zero))) (suc zero) a b n = inr (inr refl)
other_index (suc (suc (suc zero))) (suc (suc zero)) a b n = inl refl
other_index (suc (suc (suc zero))) (suc (suc (suc zero))) a b n = absurd (n refl)
other_index (suc (suc (suc zero))) (suc (suc (suc (suc k)))) a b n = absurd (omega (arith, b))
other_index (suc (suc (suc (suc l)))) k a b n = absurd (omega (arith, a))

others_ok :
    (f : ℕ → ℕ) → every 4 (λ l. nat_lt (f l) 4 && not (f l == l)) ≡ true → (l : ℕ) → l < 4 → (f l < 4) × (f l ≢ l)
others_ok f h l m = grind (arith, every_at, ltb-true, both_ways, not-true, eq-eqb)

pub first_other : (l : ℕ) → l < 4 → (first_of l < 4) × (first_of l ≢ l)
first_other = others_ok first_of refl

pub second_other : (l : ℕ) → l < 4 → (second_of l < 4) × (second_of l ≢ l)
second_other = others_ok second_of refl

pub third_other : (l : ℕ) → l < 4 → (third_of l < 4) × (third_of l ≢ l)
third_other = others_ok third_of refl

-- what holds of the three edges, and is kept by the cell's orientation as a factor, holds of the other facets
other_leads :
    (P : ℤ → Type 0) (v : Vertices) (p : ℕ) (s : RationalPoint) (cell : Tetrahedron) (l : ℕ) → l < 4 →
    ((z : ℤ) → P z → P (orientation_at v cell *ℤ z)) →
    P (side (v.at p) (v.at (facet_of cell l).a) (v.at (facet_of cell l).b) s) →
    P (side (v.at p) (v.at (facet_of cell l).b) (v.at (facet_of cell l).c) s) →
    P (side (v.at p) (v.at (facet_of cell l).c) (v.at (facet_of cell l).a) s) → (k : ℕ) → k < 4 → k ≢ l →
    P (lead_of (starts v p cell) (ends v s cell) l k)
other_leads P v p s cell l b times ab bc ca k c n = grind (arith, ints, other_index, edge_ab, edge_bc, edge_ca)

-- ---- entry and exit of a cell
-- the sight comes into the cell through facet l
pub record IsEntry (p s : ℕ → ℤ) (l : ℕ) : Type 0 where
  pub start : p l <ℤ pos 0
  pub end : pos 0 <ℤ s l
  pub others : (k : ℕ) → k < 4 → k ≢ l → pos 0 <ℤ lead_of p s l k

pub entry_of :
    (v : Vertices) (p : ℕ) (s : RationalPoint) (cell : Tetrahedron) (l : ℕ) → l < 4 → pos 0 <ℤ orientation_at v cell →
    IsCrossed v p s (facet_of cell l) → IsEntry (starts v p cell) (ends v s cell) l
entry_of v p s cell l b o h =
    record {
      start = h.behind;
      end = h.ahead;
      others =
          other_leads (λ z. pos 0 <ℤ z) v p s cell l b (λ z k. mul_positive (orientation_at v cell) z o k) h.ab h.bc h.ca;
    }

pub exit_left :
    (v : Vertices) (p : ℕ) (s : RationalPoint) (cell : Tetrahedron) (l : ℕ) → l < 4 → pos 0 <ℤ orientation_at v cell →
    IsExit (starts v p cell) (ends v s cell) l → IsLeft v p s (facet_of cell l)
exit_left v p s cell l b o h =
    let Q : ℤ → Type 0 = λ z. z <ℤ pos 0 in
    let x = third_other l b in let y = first_other l b in let z = second_other l b in
    record {
      ahead = h.end;
      behind = h.start;
      ab =
          factor_below (orientation_at v cell) (side (v.at p) (v.at (facet_of cell l).a) (v.at (facet_of cell l).b) s) o
          (subst Q (sym (edge_ab v p s cell l)) (h.others (third_of l) x.0 x.1));
      bc =
          factor_below (orientation_at v cell) (side (v.at p) (v.at (facet_of cell l).b) (v.at (facet_of cell l).c) s) o
          (subst Q (sym (edge_bc v p s cell l)) (h.others (first_of l) y.0 y.1));
      ca =
          factor_below (orientation_at v cell) (side (v.at p) (v.at (facet_of cell l).c) (v.at (facet_of cell l).a) s) o
          (subst Q (sym (edge_ca v p s cell l)) (h.others (second_of l) z.0 z.1));
    }

pub left_exit :
    (v : Vertices) (p : ℕ) (s : RationalPoint) (cell : Tetrahedron) (l : ℕ) → l < 4 → pos 0 <ℤ orientation_at v cell →
    IsLeft v p s (facet_of cell l) → IsExit (starts v p cell) (ends v s cell) l
left_exit v p s cell l b o h =
    record {
      start = h.behind;
      end = h.ahead;
      others = other_leads (λ z. z <ℤ pos 0) v p s cell l b (λ z k. mul_below (orientation_at v cell) z o k) h.ab h.bc h.ca;
    }
