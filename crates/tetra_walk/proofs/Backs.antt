-- Two cells name each other across one facet alone.
--
-- Let x name y across its side k, and y name x across its side m. The store keeps that some side b of y has the facet of k
-- turned round. If m were another side, the vertex u of y opposite to b would be on the facet of m, which is a facet of x
-- turned round, so u would be a vertex of x. But u is strictly before facet b of y, so strictly behind facet k of x, and no
-- vertex of x is.
use Rattle.std.proofs.Common.{ℕ, ◌<◌, ◌≡◌, ◌≢◌, ◌⊎◌, inl, inr, ⊎_elim, sym, ap, subst, arith, Some, pos, ◌<ℤ◌}
use Rattle.std.proofs.lemmas.Int.{ints}
use Rattle.geo_sign.specs.Rational.{rational}
use Rattle.geo_sign.specs.Sights.{side_of}
use Rattle.geo_sign.specs.Tetrahedron.{Tetrahedron, facet_of, vertex_of, IsTurned}
use Rattle.geo_sign.specs.Vertices.{Vertices}
use Rattle.geo_sign.specs.Writings as writings
use Rattle.geo_sign.specs.Edges.{HasVertex}
use Rattle.geo_sign.proofs.Rotations.{side_turned}
use Rattle.geo_sign.proofs.Facets.{in_of, in_turned, opposite_or_on, vertex_in}
use Rattle.cell_laws.proofs.Sides.{opposite, on_facet}
use Rattle.tetra_store.specs.Links.{Links, IsLive, IsBack, IsLinked}

-- a side of y that names x faces the side of x that names y
pub one_back : (v : Vertices) (links : Links) → IsLinked v links → (x k y m : ℕ) → IsLive links x → k < 4
    → links.next x k ≡ Some y → IsLive links y → m < 4 → links.next y m ≡ Some x
    → IsTurned (facet_of (links.at x) k) (facet_of (links.at y) m)
one_back v links l x k y m i hk e j hm f = by h
  where
    t : Tetrahedron
    t = links.at x

    r : Tetrahedron
    r = links.at y

    b : IsBack links x k y
    b = l.back x k y i hk e

    d : IsBack links y m x
    d = l.back y m x j hm f

    h : (m ≡ b.side) ⊎ (m ≢ b.side)
    h = search arith

    u : ℕ
    u = vertex_of r b.side

    -- the vertex of y across from the facet is behind it, and is none of x
    below : pos 0 <ℤ side_of v (facet_of r b.side) (rational (v.at u))
    below = let o = opposite v r b.side in let p = l.positive y j in omega (arith, ints, o, p)

    none : writings.IsVertexOf t u → ⊥
    none own_u =
        let s = side_turned v (facet_of t k) (facet_of r b.side) (rational (v.at u)) b.turned in
        ⊎_elim
        (λ (q : u ≡ vertex_of t k).
        let o = opposite v t k in let p = l.positive x i in
        let z : side_of v (facet_of t k) (rational (v.at u)) ≡ side_of v (facet_of t k) (rational (v.at (vertex_of t k))) =
        ap (λ (w : ℕ). side_of v (facet_of t k) (rational (v.at w))) q in
        absurd (omega (arith, ints, s, below, o, p, z)))
        (λ (q : HasVertex (facet_of t k) u). let z = on_facet v (facet_of t k) u q in absurd (omega (arith, ints, s, below, z)))
        (opposite_or_on t k u own_u)

    by : (m ≡ b.side) ⊎ (m ≢ b.side) → IsTurned (facet_of t k) (facet_of r m)
    by (inl q) = subst (λ (w : ℕ). IsTurned (facet_of t k) (facet_of r w)) (sym q) b.turned
    by (inr n) =
        ⊎_elim
        (λ (q : u ≡ vertex_of r m). absurd (n (sym (l.distinct y b.side m j b.in_range hm q))))
        (λ (q : HasVertex (facet_of r m) u).
        absurd (none (in_of t d.side u (in_turned (facet_of r m) (facet_of t d.side) u d.turned q))))
        (opposite_or_on r m u (vertex_in r b.side))
