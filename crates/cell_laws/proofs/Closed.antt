-- A list of cells that no step across a facet leaves has all cells. Take any cell and its middle, a place strictly in it. Of
-- the list the cell that is highest over this place has it, since else there would be a higher one across a facet, in the list
-- too. The place lies strictly in one cell alone, so the cell is in the list.
-- Stands on: Cover, and Flood (a place lies strictly in one cell).
use Rattle.std.proofs.Common.{[], ℕ, ◌≡◌, subst, ◌⊎◌, inl, inr, arith, pos, ◌+ℤ◌, ◌≤ℤ◌, ◌<ℤ◌, List, ℤ}
use Rattle.std.proofs.lemmas.Int.{ints}
use Rattle.geo_sign.specs.Polynomial.{constant, sum}
use Rattle.geo_sign.proofs.Ring.{ring}
use Rattle.geo_sign.specs.Orientation.{orientation}
use Rattle.geo_sign.specs.Point.{Point, point}
use Rattle.geo_sign.specs.Rational.{RationalPoint, side}
use Rattle.geo_sign.proofs.Written.{coordinates, orientation', RationalSymbols, side', Symbols, symbols, A, B, C, D}
use Rattle.geo_sign.specs.Cells.{IsCell}
use Rattle.geo_sign.specs.Tetrahedron.{Tetrahedron, tetrahedron}
use Rattle.geo_sign.specs.Vertices.{Vertices}
use Rattle.geo_sign.specs.Places.{IsStrictlyIn}
use Rattle.cell_laws.specs.Lists.{IsFull, IsIn}
use Rattle.geo_sign.specs.Writings.{IsRewritten}
use Rattle.geo_sign.proofs.Exchanges.{turned_orientation}
use Rattle.geo_sign.proofs.Rewritings.{IsCellOf, orientation_at, same_cell}
use Rattle.cell_laws.proofs.Cover.{IsJoined, cover}
use Rattle.cell_laws.proofs.Flood.{holds_one}
use Rattle.cell_laws.proofs.Regions.{IsGeneric, IsOuter}
use Rattle.cell_laws.proofs.Ways.{beside, strictly}
use Rattle.cell_laws.proofs.Wrap.{one_over}

-- the middle of four points, as a place
abbrev plus' : Symbols → Symbols → Symbols
plus' a b = record { x = sum a.x b.x; y = sum a.y b.y; z = sum a.z b.z }

abbrev middle : Point → Point → Point → Point → RationalPoint
middle a b c d =
    record { at = point (a.x +ℤ b.x +ℤ c.x +ℤ d.x) (a.y +ℤ b.y +ℤ c.y +ℤ d.y) (a.z +ℤ b.z +ℤ c.z +ℤ d.z); over = pos 4 }

abbrev middle' : Symbols → Symbols → Symbols → Symbols → RationalSymbols
middle' a b c d = record { at = plus' (plus' (plus' a b) c) d; over = constant (pos 4) }

middle_side :
    (a b c e f g h : Point) →
    side a b c (middle e f g h) ≡ orientation a b c e +ℤ orientation a b c f +ℤ orientation a b c g +ℤ orientation a b c h
unfolding side orientation
middle_side a b c e f g h =
    let E : Symbols = symbols 9 in
    let F : Symbols = symbols 12 in
    let G : Symbols = symbols 15 in
    let H : Symbols = symbols 18 in
    ring (coordinates a (coordinates b (coordinates c (coordinates e (coordinates f (coordinates g (coordinates h [])))))))
    (side' A B C (middle' E F G H))
    (sum (sum (sum (orientation' A B C E) (orientation' A B C F)) (orientation' A B C G)) (orientation' A B C H)) tt

-- it is as far from each facet as a quarter of the orientation says
middle_sides :
    (a b c d : Point) → (side b d c (middle a b c d) ≡ orientation a b c d) × (side a c d (middle a b c d) ≡ orientation a b c d)
    × (side a d b (middle a b c d) ≡ orientation a b c d) × (side a b c (middle a b c d) ≡ orientation a b c d)
unfolding side orientation
middle_sides a b c d =
    let numbers : List ℤ = coordinates a (coordinates b (coordinates c (coordinates d []))) in
    let m : RationalSymbols = middle' A B C D in (
      ring numbers (side' B D C m) (orientation' A B C D) tt,
      ring numbers (side' A C D m) (orientation' A B C D) tt,
      ring numbers (side' A D B m) (orientation' A B C D) tt,
      ring numbers (side' A B C m) (orientation' A B C D) tt,
    )

abbrev middle_of : Vertices → Tetrahedron → RationalPoint
middle_of v r = middle (v.at r.a) (v.at r.b) (v.at r.c) (v.at r.d)

in_middle : (v : Vertices) (r : Tetrahedron) → pos 0 <ℤ orientation_at v r → IsStrictlyIn v r (middle_of v r)
in_middle v r h = grind (arith, ints, middle_sides, strictly)

pub closed_full :
    {X : Type 0} (v : Vertices) → IsGeneric v → (live : List X) (cell : X → Tetrahedron) → IsJoined v live cell → (x : X) →
    IsIn live x → IsFull v live cell
closed_full {X} v g live cell j x i = record { cells = j.cells; all = all }
  where
    inside :
        (r : Tetrahedron) → IsCellOf v r → (a b c d : ℕ) → IsCell v a b c d → IsOuter v a b c →
        pos 0 ≤ℤ beside v a b c (middle_of v r)
    inside r k a b c d h o =
        let e = middle_side (v.at a) (v.at b) (v.at c) (v.at r.a) (v.at r.b) (v.at r.c) (v.at r.d) in
        let f = o r.a k.has_a in let m = o r.b k.has_b in let n = o r.c k.has_c in let q = o r.d k.has_d in
        omega (arith, ints, e, f, m, n, q)

    all : (a b c d : ℕ) → IsCell v a b c d → (y : X) × IsIn live y × IsRewritten (cell y) (tetrahedron a b c d)
    all a b c d k =
        let r : Tetrahedron = tetrahedron a b c d in
        let z = cover v g (middle_of v r) (inside r k) live cell j x i in
        (z.0, z.1, holds_one v g (cell z.0) r (middle_of v r) (j.cells z.0 z.1) k z.2 (in_middle v r k.positive))

-- no cell is across an outer facet
pub outer_none : (v : Vertices) (a b c e : ℕ) → IsOuter v a b c → IsCell v a c b e → ⊥
outer_none v a b c e o k = grind (arith, ints, turned_orientation)

-- each facet has a cell of the list across it, or is an outer one
pub linked_joined :
    {X : Type 0} (v : Vertices) → IsGeneric v → (live : List X) (cell : X → Tetrahedron)
    → ((x : X) → IsIn live x → IsCellOf v (cell x))
    → ((x : X) (a b c d : ℕ) → IsIn live x → IsRewritten (cell x) (tetrahedron a b c d)
    → IsOuter v a b c ⊎ ((y : X) × (e : ℕ) × IsIn live y × IsRewritten (cell y) (tetrahedron a c b e))) → IsJoined v live cell
linked_joined {X} v g live cell cells links =
    record { cells = cells; next = λ x a b c d e i w k. pick a b c d e k (links x a b c d i w) }
  where
    pick :
        (a b c d e : ℕ) → IsCell v a c b e →
        IsOuter v a b c ⊎ ((y : X) × (e : ℕ) × IsIn live y × IsRewritten (cell y) (tetrahedron a c b e)) →
        (y : X) × IsIn live y × IsRewritten (cell y) (tetrahedron a c b e)
    pick a b c d e k (inl o) = absurd (outer_none v a b c e o k)
    pick a b c d e k (inr z) = (
      z.0,
      z.2,
      subst (λ t. IsRewritten (cell z.0) (tetrahedron a c b t))
          (one_over v g a c b z.1 e (same_cell v (cell z.0) (tetrahedron a c b z.1) z.3 (cells z.0 z.2)) k) z.3,
    )
