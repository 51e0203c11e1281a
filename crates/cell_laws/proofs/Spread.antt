-- A place that is in the plane of no three vertices but those on one line: what that says of a cell's sides and minors.
-- Stands on: Crossings.
use Rattle.std.proofs.Common.{ℕ, zero, suc, ◌<◌, ◌≡◌, ◌≢◌, ap, sym, ◌∙◌, ⊎_elim, ◌⊎◌, arith, pos, neg_ℤ, []}
use Rattle.std.proofs.lemmas.Int.{ints}
use Rattle.geo_sign.specs.Polynomial.{constant, negation}
use Rattle.geo_sign.proofs.Ring.{ring}
use Rattle.geo_sign.specs.Point.{Point}
use Rattle.geo_sign.specs.Rational.{rational, RationalPoint, side}
use Rattle.geo_sign.proofs.Written.{coordinates, side', symbols}
use Rattle.geo_sign.specs.Tetrahedron.{DirectedFacet, facet_of, Tetrahedron, vertex_of}
use Rattle.geo_sign.specs.Vertices.{Vertices}
use Rattle.geo_sign.proofs.Rewritings.{IsCellOf, orientation_at}
use Rattle.cell_laws.proofs.Firsts.{lead_of}
use Rattle.cell_laws.proofs.Order.{factor_none}
use Rattle.cell_laws.proofs.Sides.{opposite}
use Rattle.cell_laws.proofs.Crossings.{starts, ends, edge_ab, edge_bc, edge_ca, first_of, second_of, third_of, other_index}

-- ---- s lies on the plane of three vertices only where these lie on a line
pub record IsSpread (v : Vertices) (s : RationalPoint) : Type 0 where
  pub at :
      (a b c : ℕ) (d : Point) → a < v.count → b < v.count → c < v.count → side (v.at a) (v.at b) (v.at c) (rational d) ≢ pos 0 →
      side (v.at a) (v.at b) (v.at c) s ≢ pos 0

pub record IsBelow (n : ℕ) (f : DirectedFacet) : Type 0 where
  pub a_below : f.a < n
  pub b_below : f.b < n
  pub c_below : f.c < n

pub facet_below : (v : Vertices) (cell : Tetrahedron) → IsCellOf v cell → (k : ℕ) → IsBelow v.count (facet_of cell k)
facet_below v cell h zero = record { a_below = h.has_b.0; b_below = h.has_d.0; c_below = h.has_c.0 }
facet_below v cell h (suc zero) = record { a_below = h.has_a.0; b_below = h.has_c.0; c_below = h.has_d.0 }
facet_below v cell h (suc (suc zero)) = record { a_below = h.has_a.0; b_below = h.has_d.0; c_below = h.has_b.0 }
facet_below v cell h (suc (suc (suc k))) = record { a_below = h.has_a.0; b_below = h.has_b.0; c_below = h.has_c.0 }

pub ends_apart :
    (v : Vertices) (s : RationalPoint) (cell : Tetrahedron) → IsSpread v s → IsCellOf v cell → (k : ℕ) → ends v s cell k ≢ pos 0
ends_apart v s cell h c k =
    let f : DirectedFacet = facet_of cell k in
    let b = facet_below v cell c k in
    let o = c.positive in
    h.at f.a f.b f.c (v.at (vertex_of cell k)) b.a_below b.b_below b.c_below
    (λ e. let g = opposite v cell k in absurd (omega (arith, ints, e, g, o)))

-- the plane of p and an edge, at the facet's third vertex
third_ab : (a b c p : Point) → side p a b (rational c) ≡ neg_ℤ (side a b c (rational p))
unfolding side
third_ab a b c p =
    ring (coordinates a (coordinates b (coordinates c (coordinates p []))))
    (side' (symbols 9) (symbols 0) (symbols 3) (record { at = symbols 6; over = constant (pos 1) }))
    (negation (side' (symbols 0) (symbols 3) (symbols 6) (record { at = symbols 9; over = constant (pos 1) }))) tt

third_bc : (a b c p : Point) → side p b c (rational a) ≡ neg_ℤ (side a b c (rational p))
unfolding side
third_bc a b c p =
    ring (coordinates a (coordinates b (coordinates c (coordinates p []))))
    (side' (symbols 9) (symbols 3) (symbols 6) (record { at = symbols 0; over = constant (pos 1) }))
    (negation (side' (symbols 0) (symbols 3) (symbols 6) (record { at = symbols 9; over = constant (pos 1) }))) tt

third_ca : (a b c p : Point) → side p c a (rational b) ≡ neg_ℤ (side a b c (rational p))
unfolding side
third_ca a b c p =
    ring (coordinates a (coordinates b (coordinates c (coordinates p []))))
    (side' (symbols 9) (symbols 6) (symbols 0) (record { at = symbols 3; over = constant (pos 1) }))
    (negation (side' (symbols 0) (symbols 3) (symbols 6) (record { at = symbols 9; over = constant (pos 1) }))) tt

pub leads_apart :
    (v : Vertices) (p : ℕ) (s : RationalPoint) (cell : Tetrahedron) → IsSpread v s → p < v.count → IsCellOf v cell → (l k : ℕ) →
    l < 4 → k < 4 → k ≢ l → starts v p cell l ≢ pos 0 → lead_of (starts v p cell) (ends v s cell) l k ≢ pos 0
leads_apart v p s cell h hp own l k b c n a e =
    let f : DirectedFacet = facet_of cell l in
    let o = own.positive in
    let z = facet_below v cell own l in
    let at_k = λ (m : ℕ) (i : k ≡ m). ap (λ j. lead_of (starts v p cell) (ends v s cell) l j) (sym i) ∙ e in
    ⊎_elim
    (λ (i : k ≡ third_of l).
    h.at p f.a f.b (v.at f.c) hp z.a_below z.b_below
    (λ y. a (let g = third_ab (v.at f.a) (v.at f.b) (v.at f.c) (v.at p) in omega (arith, ints, g, y)))
    (factor_none (orientation_at v cell) (side (v.at p) (v.at f.a) (v.at f.b) s) o
    (edge_ab v p s cell l ∙ at_k (third_of l) i)))
    (λ (r : (k ≡ first_of l) ⊎ (k ≡ second_of l)).
    ⊎_elim
    (λ (i : k ≡ first_of l).
    h.at p f.b f.c (v.at f.a) hp z.b_below z.c_below
    (λ y. a (let g = third_bc (v.at f.a) (v.at f.b) (v.at f.c) (v.at p) in omega (arith, ints, g, y)))
    (factor_none (orientation_at v cell) (side (v.at p) (v.at f.b) (v.at f.c) s) o
    (edge_bc v p s cell l ∙ at_k (first_of l) i)))
    (λ (i : k ≡ second_of l).
    h.at p f.c f.a (v.at f.b) hp z.c_below z.a_below
    (λ y. a (let g = third_ca (v.at f.a) (v.at f.b) (v.at f.c) (v.at p) in omega (arith, ints, g, y)))
    (factor_none (orientation_at v cell) (side (v.at p) (v.at f.c) (v.at f.a) s) o
    (edge_ca v p s cell l ∙ at_k (second_of l) i)))
    r)
    (other_index l k b c n)
