-- No cell has a facet in both directions.
--
-- A facet and its turned one have the same three vertices. The facet of side k has all four vertices of the cell but vertex k. So
-- facets of two sides that are each other turned have the same vertex opposite, and are of one side, as vertices are distinct
-- (`same_side`). A facet of three distinct vertices is not itself turned (`not_itself`).
use Rattle.std.proofs.Common.{ℕ, zero, suc, ◌≡◌, ◌≢◌, ◌<◌, ◌+◌, ap, inl, inr, arith}
use Rattle.geo_sign.specs.Tetrahedron.{Tetrahedron, DirectedFacet, facet, facet_of, vertex_of, IsTurned}

abbrev sum_of : DirectedFacet → ℕ
sum_of f = f.a + f.b + f.c

turned_sum : (f g : DirectedFacet) → IsTurned f g → sum_of g ≡ sum_of f
turned_sum f g h =
    elim h [
      | inl e ↦ let k = ap sum_of e in omega (arith, k)
      | inr more ↦
          elim more [
            | inl e ↦ let k = ap sum_of e in omega (arith, k)
            | inr e ↦ let k = ap sum_of e in omega (arith, k)
          ]
    ]

facet_sum : (t : Tetrahedron) (k : ℕ) → sum_of (facet_of t k) + vertex_of t k ≡ t.a + t.b + t.c + t.d
facet_sum t k = grind arith

-- distinct vertices
abbrev pub AreDistinct : Tetrahedron → Type 0
AreDistinct t = (j k : ℕ) → j < 4 → k < 4 → vertex_of t j ≡ vertex_of t k → j ≡ k

same_side : (t : Tetrahedron) → AreDistinct t → (k m : ℕ) → k < 4 → m < 4 → IsTurned (facet_of t k) (facet_of t m) → m ≡ k
same_side t d k m lk lm h =
    d m k lm lk (omega (arith, turned_sum (facet_of t k) (facet_of t m) h, facet_sum t k, facet_sum t m))

not_itself : (t : Tetrahedron) → AreDistinct t → (p q r : ℕ) → p < 4 → q < 4 → r < 4 → p ≢ q → q ≢ r → p ≢ r →
    ¬ IsTurned (facet (vertex_of t p) (vertex_of t q) (vertex_of t r)) (facet (vertex_of t p) (vertex_of t q) (vertex_of t r))
not_itself t d p q r lp lq lr pq qr pr h =
    elim h [
      | inl e ↦ qr (d q r lq lr (ap (λ (f : DirectedFacet). f.b) e))
      | inr more ↦
          elim more [
            | inl e ↦ pr (d p r lp lr (ap (λ (f : DirectedFacet). f.a) e))
            | inr e ↦ pq (d p q lp lq (ap (λ (f : DirectedFacet). f.a) e))
          ]
    ]

own : (t : Tetrahedron) → AreDistinct t → (k : ℕ) → ¬ IsTurned (facet_of t k) (facet_of t k)
own t d zero = not_itself t d 1 3 2 (omega arith) (omega arith) (omega arith) (λ e. omega (arith, e)) (λ e. omega (arith, e))
    (λ e. omega (arith, e))
own t d (suc zero) =
    not_itself t d 0 2 3 (omega arith) (omega arith) (omega arith) (λ e. omega (arith, e)) (λ e. omega (arith, e))
    (λ e. omega (arith, e))
own t d (suc (suc zero)) =
    not_itself t d 0 3 1 (omega arith) (omega arith) (omega arith) (λ e. omega (arith, e)) (λ e. omega (arith, e))
    (λ e. omega (arith, e))
own t d (suc (suc (suc k))) =
    not_itself t d 0 1 2 (omega arith) (omega arith) (omega arith) (λ e. omega (arith, e)) (λ e. omega (arith, e))
    (λ e. omega (arith, e))

-- no two sides of a cell have one facet in its two directions
pub none_turned : (t : Tetrahedron) → AreDistinct t → (k m : ℕ) → k < 4 → m < 4 → ¬ IsTurned (facet_of t k) (facet_of t m)
none_turned t d k m lk lm h = grind (arith, own, same_side)
