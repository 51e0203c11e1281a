-- Places as near to a vertex p as is wanted, on the way to a place s or away from it, and the one cell that has one. The side
-- of the near place is a large multiple of the side of p and once that of s, so the side of p decides, and where p is on
-- the facet that of s does. A cell with the near place therefore has p, and since the cell's own vertices alone lie in it,
-- p is one of its four; at the facets with p the place s is on the inner side. So it is the cell at p towards s; and no
-- other is, since the near place lies strictly in it.
-- Stands on: Sides, Cover (a vertex in a cell is its own) and Flood (a place lies strictly in one cell).
use Rattle.std.proofs.Common.{ℕ, zero, suc, ◌<◌, ◌≡◌, ◌≢◌, ap, ◌∙◌, ⊎_elim, arith, mul-suc, ℤ, pos, negsuc, ◌+ℤ◌, ◌*ℤ◌, ◌≤ℤ◌}
use Rattle.std.proofs.Common.{◌<ℤ◌, unsigned_abs, [], ◌∷◌}
use Rattle.std.proofs.lemmas.Int.{ints, by_lt_z}
use lib.IntN.{*ℤ-zero}
use Rattle.geo_sign.specs.Polynomial.{constant, Polynomial, product, sum, variable}
use Rattle.geo_sign.proofs.Ring.{ring}
use Rattle.geo_sign.specs.Point.{Point}
use Rattle.geo_sign.specs.Rational.{rational, RationalPoint, side}
use Rattle.geo_sign.proofs.Written.{coordinates, side', Symbols, symbols, A, B, C}
use Rattle.geo_sign.specs.Tetrahedron.{DirectedFacet, facet_of, Tetrahedron, vertex_of}
use Rattle.geo_sign.specs.Vertices.{Has, Vertices}
use Rattle.geo_sign.specs.Places.{IsLyingIn, IsStrictlyIn}
use Rattle.geo_sign.specs.NearPlaces.{mix, near}
use Rattle.geo_sign.specs.Writings.{IsVertexOf, IsRewritten}
use Rattle.geo_sign.proofs.Rewritings.{IsCellOf, orientation_at}
use Rattle.cell_laws.proofs.Cover.{lies_of}
use Rattle.cell_laws.proofs.Flood.{holds_one, weak}
use Rattle.cell_laws.proofs.Regions.{IsConvex, IsGeneric}
use Rattle.geo_sign.specs.Edges.{HasVertex}
use Rattle.geo_sign.proofs.Facets.{opposite_or_on}
use Rattle.cell_laws.proofs.Sides.{inward, on_facet, opposite}

pub side_mix :
    (a b c p : Point) (s : RationalPoint) (i j : ℤ) →
    side a b c (mix i p j s) ≡ i *ℤ side a b c (rational p) +ℤ j *ℤ side a b c s
unfolding side
side_mix a b c p s i j =
    let P : Symbols = symbols 9 in
    let S : Symbols = symbols 12 in
    let M : Polynomial = variable 15 in let I : Polynomial = variable 16 in let J : Polynomial = variable 17 in
    ring (coordinates a (coordinates b (coordinates c (coordinates p (coordinates s.at (s.over ∷ i ∷ j ∷ []))))))
    (side' A B C
    (record {
      at = record {
        x = sum (product I P.x) (product J S.x);
        y = sum (product I P.y) (product J S.y);
        z = sum (product I P.z) (product J S.z);
      };
      over = sum I (product J M);
    }))
    (sum (product I (side' A B C (record { at = P; over = constant (pos 1) })))
    (product J (side' A B C (record { at = S; over = M }))))
    tt

pub inward_mix :
    (v : Vertices) (cell : Tetrahedron) (k : ℕ) (p : Point) (s : RationalPoint) (i j : ℤ) →
    inward v cell k (mix i p j s) ≡ i *ℤ inward v cell k (rational p) +ℤ j *ℤ inward v cell k s
inward_mix v cell k p s i j = let f : DirectedFacet = facet_of cell k in side_mix (v.at f.a) (v.at f.b) (v.at f.c) p s i j

pub one_times : (y : ℤ) → pos 1 *ℤ y ≡ y
one_times y = ring (y ∷ []) (product (constant (pos 1)) (variable 0)) (variable 0) tt

pub inward_near :
    (v : Vertices) (cell : Tetrahedron) (k : ℕ) (t : ℕ) (p : Point) (s : RationalPoint) →
    inward v cell k (near t p s) ≡ pos t *ℤ inward v cell k (rational p) +ℤ inward v cell k s
inward_near v cell k t p s =
    inward_mix v cell k p s (pos t) (pos 1)
    ∙ ap (λ y. pos t *ℤ inward v cell k (rational p) +ℤ y) (one_times (inward v cell k s))

-- ---- the first of two numbers decides
pub first_decides : (t : ℕ) (x y : ℤ) → unsigned_abs y < t → pos 0 ≤ℤ (pos t *ℤ x +ℤ y) → pos 0 ≤ℤ x
first_decides t (pos n) y h k = omega (arith, ints)
first_decides t (negsuc n) y h k = absurd (omega (arith, ints, mul-suc t n))

pub first_positive : (t : ℕ) (x y : ℤ) → unsigned_abs y < t → pos 0 <ℤ x → pos 0 <ℤ (pos t *ℤ x +ℤ y)
first_positive t (pos zero) y h k = absurd (omega (arith, ints))
first_positive t (pos (suc n)) y h k = omega (arith, ints, mul-suc t n)
first_positive t (negsuc n) y h k = absurd (omega (arith, ints))

pub first_zero : (t : ℕ) (x y : ℤ) → x ≡ pos 0 → pos t *ℤ x +ℤ y ≡ y
first_zero t x y e = grind (arith, ints, *ℤ-zero, ring)

-- ---- a place that lies on no plane of a facet, at sides below t
pub record IsFree (v : Vertices) (s : RationalPoint) (t : ℕ) : Type 0 where
  pub apart : (cell : Tetrahedron) → IsCellOf v cell → (k : ℕ) → inward v cell k s ≢ pos 0
  pub bounded : (cell : Tetrahedron) → IsCellOf v cell → (k : ℕ) → unsigned_abs (inward v cell k s) < t

-- p is a vertex of v, and s is on the inner side of each facet at p
pub record IsTowards (v : Vertices) (cell : Tetrahedron) (p : ℕ) (s : RationalPoint) : Type 0 where
  pub has : IsVertexOf cell p
  pub faces : (k : ℕ) → HasVertex (facet_of cell k) p → pos 0 <ℤ inward v cell k s

-- ---- the cell that holds the place near p towards s is the one towards s
pub near_towards :
    (v : Vertices) → IsConvex v → (s : RationalPoint) (t : ℕ) → IsFree v s t → (u : Tetrahedron) (p : ℕ) → Has v p →
    IsCellOf v u → IsLyingIn v u (near t (v.at p) s) → IsTowards v u p s
near_towards v c s t f u p h d i =
    let lies : IsLyingIn v u (rational (v.at p)) =
    record {
      at = λ k.
          let e = inward_near v u k t (v.at p) s in let l = i.at k in
          first_decides t (inward v u k (rational (v.at p))) (inward v u k s) (f.bounded u d k) (omega (arith, ints, e, l));
    } in
    record {
      has = lies_of v c u p d h lies;
      faces = λ k on.
          let e = inward_near v u k t (v.at p) s in let l = i.at k in
          let z = first_zero t (inward v u k (rational (v.at p))) (inward v u k s) (on_facet v (facet_of u k) p on) in
          let n = f.apart u d k in
          by_lt_z (pos 0) (inward v u k s) (λ g. g) (λ g. absurd (n (omega (arith, ints, e, l, z, g))));
    }

pub towards_near :
    (v : Vertices) (s : RationalPoint) (t : ℕ) → IsFree v s t → (u : Tetrahedron) (p : ℕ) → IsCellOf v u → IsTowards v u p s →
    IsStrictlyIn v u (near t (v.at p) s)
towards_near v s t f u p d i =
    record {
      at = λ k.
          let e = inward_near v u k t (v.at p) s in
          ⊎_elim
          (λ (o : p ≡ vertex_of u k).
          let g : inward v u k (rational (v.at p)) ≡ orientation_at v u =
          ap (λ (x : ℕ). inward v u k (rational (v.at x))) o ∙ opposite v u k in
          let cell = d.positive in
          let l : pos 0 <ℤ inward v u k (rational (v.at p)) = omega (arith, ints, g, cell) in
          let r = first_positive t (inward v u k (rational (v.at p))) (inward v u k s) (f.bounded u d k) l in
          omega (arith, ints, e, r))
          (λ (o : HasVertex (facet_of u k) p).
          let z = first_zero t (inward v u k (rational (v.at p))) (inward v u k s) (on_facet v (facet_of u k) p o) in
          let r = i.faces k o in omega (arith, ints, e, r, z)) (opposite_or_on u k p i.has);
    }

-- and there is no other
pub one_towards :
    (v : Vertices) → IsGeneric v → (s : RationalPoint) (t : ℕ) → IsFree v s t → (cell u : Tetrahedron) (p : ℕ) →
    IsCellOf v cell → IsCellOf v u → IsTowards v cell p s → IsTowards v u p s → IsRewritten cell u
one_towards v g s t f cell u p c d h i =
    let q = near t (v.at p) s in
    holds_one v g cell u q c d (weak v cell q (towards_near v s t f cell p c h)) (towards_near v s t f u p d i)
