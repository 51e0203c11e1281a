-- The ways to write a cell: they do not change its lifted plane, and two cells of the same vertices are one, written anew. What
-- else they keep geo_sign says.
-- Stands on: Identities.
use Rattle.std.proofs.Common.{ℕ, ◌≤ℤ◌, ◌≡◌, sym, ◌∙◌, inl, inr, arith, ℤ, pos, ◌<ℤ◌, [], ◌∷◌}
use Rattle.std.proofs.lemmas.Int.{ints}
use Rattle.geo_sign.specs.Polynomial.{variable}
use Rattle.geo_sign.proofs.Ring.{ring}
use Rattle.geo_sign.specs.Point.{Point}
use Rattle.geo_sign.specs.Rational.{RationalPoint, side}
use Rattle.geo_sign.proofs.Written.{coordinates, RationalSymbols, symbols, A, B, C, D}
use Rattle.geo_sign.specs.Tetrahedron.{Tetrahedron}
use Rattle.geo_sign.specs.Vertices.{Vertices}
use Rattle.geo_sign.specs.Places.{IsLyingIn, IsStrictlyIn}
use Rattle.cell_laws.specs.Lifts.{lift, lift_of}
use Rattle.geo_sign.specs.Writings.{IsVertexOf, IsRewritten}
use Rattle.geo_sign.proofs.CellRows.{AreDistinct, distinct, first, second}
use Rattle.geo_sign.proofs.Exchanges.{exchanged_orientation}
use Rattle.geo_sign.proofs.Rewritings.{carry_value, orientation_at, rewritten_after, same_orientation, same_vertex}
use Rattle.cell_laws.proofs.Identities.{lift'}

-- ---- what a cell's writing does not change
abbrev pub beside : Vertices → (a b c : ℕ) → RationalPoint → ℤ
beside v a b c q = side (v.at a) (v.at b) (v.at c) q

spin_lift : (a b c d : Point) (ha hb hc hd : ℤ) (q : RationalPoint) → lift b c a d hb hc ha hd q ≡ lift a b c d ha hb hc hd q
unfolding lift side
spin_lift a b c d ha hb hc hd q =
    let Q : RationalSymbols = record { at = symbols 12; over = variable 15 } in
    ring (coordinates a (coordinates b (coordinates c (coordinates d (coordinates q.at (q.over ∷ ha ∷ hb ∷ hc ∷ hd ∷ []))))))
    (lift' B C A D (variable 17) (variable 18) (variable 16) (variable 19) Q)
    (lift' A B C D (variable 16) (variable 17) (variable 18) (variable 19) Q) tt

swap_lift : (a b c d : Point) (ha hb hc hd : ℤ) (q : RationalPoint) → lift b a d c hb ha hd hc q ≡ lift a b c d ha hb hc hd q
unfolding lift side
swap_lift a b c d ha hb hc hd q =
    let Q : RationalSymbols = record { at = symbols 12; over = variable 15 } in
    ring (coordinates a (coordinates b (coordinates c (coordinates d (coordinates q.at (q.over ∷ ha ∷ hb ∷ hc ∷ hd ∷ []))))))
    (lift' B A D C (variable 17) (variable 16) (variable 19) (variable 18) Q)
    (lift' A B C D (variable 16) (variable 17) (variable 18) (variable 19) Q) tt

pub same_lift : (v : Vertices) (p : RationalPoint) (q r : Tetrahedron) → IsRewritten q r → lift_of v r p ≡ lift_of v q p
same_lift v p =
    carry_value (λ t. lift_of v t p)
    (λ t. spin_lift (v.at t.a) (v.at t.b) (v.at t.c) (v.at t.d) (v.high t.a) (v.high t.b) (v.high t.c) (v.high t.d) p)
    (λ t. swap_lift (v.at t.a) (v.at t.b) (v.at t.c) (v.at t.d) (v.high t.a) (v.high t.b) (v.high t.c) (v.high t.d) p)

-- ---- the sides of a place, one by one
pub lying :
    (v : Vertices) (r : Tetrahedron) (q : RationalPoint) → pos 0 ≤ℤ beside v r.b r.d r.c q → pos 0 ≤ℤ beside v r.a r.c r.d q →
    pos 0 ≤ℤ beside v r.a r.d r.b q → pos 0 ≤ℤ beside v r.a r.b r.c q → IsLyingIn v r q
lying v r q h i j k = grind (arith, ints)

pub strictly :
    (v : Vertices) (r : Tetrahedron) (q : RationalPoint) → pos 0 <ℤ beside v r.b r.d r.c q → pos 0 <ℤ beside v r.a r.c r.d q →
    pos 0 <ℤ beside v r.a r.d r.b q → pos 0 <ℤ beside v r.a r.b r.c q → IsStrictlyIn v r q
strictly v r q h i j k = grind (arith, ints)

-- ---- two cells of the same vertices
pub tetrahedron_same : (q r : Tetrahedron) → q.a ≡ r.a → q.b ≡ r.b → q.c ≡ r.c → q.d ≡ r.d → q ≡ r
tetrahedron_same q r e f g h = grind arith

-- two vertices alike, and the other two among the rest
rest :
    (v : Vertices) (q r : Tetrahedron) → pos 0 <ℤ orientation_at v q → pos 0 <ℤ orientation_at v r → AreDistinct r → q.a ≡ r.a →
    q.b ≡ r.b → IsVertexOf q r.c → IsVertexOf q r.d → q ≡ r
rest v q r hq hr n ea eb (inl e) od = absurd (n.c_a (e ∙ ea))
rest v q r hq hr n ea eb (inr (inl e)) od = absurd (n.c_b (e ∙ eb))
rest v q r hq hr n ea eb (inr (inr (inl e))) (inl f) = absurd (n.d_a (f ∙ ea))
rest v q r hq hr n ea eb (inr (inr (inl e))) (inr (inl f)) = absurd (n.d_b (f ∙ eb))
rest v q r hq hr n ea eb (inr (inr (inl e))) (inr (inr (inl f))) = absurd (n.d_c (f ∙ sym e))
rest v q r hq hr n ea eb (inr (inr (inl e))) (inr (inr (inr f))) = tetrahedron_same q r ea eb (sym e) (sym f)
rest v q r hq hr n ea eb (inr (inr (inr e))) (inl f) = absurd (n.d_a (f ∙ ea))
rest v q r hq hr n ea eb (inr (inr (inr e))) (inr (inl f)) = absurd (n.d_b (f ∙ eb))
rest v q r hq hr n ea eb (inr (inr (inr e))) (inr (inr (inl f))) = grind (arith, ints, exchanged_orientation, tetrahedron_same)
rest v q r hq hr n ea eb (inr (inr (inr e))) (inr (inr (inr f))) = absurd (n.d_c (f ∙ sym e))

-- a positive writing whose vertices are all among another's is that cell
pub same_tetrahedron :
    (v : Vertices) (q r : Tetrahedron) → pos 0 <ℤ orientation_at v q → pos 0 <ℤ orientation_at v r → IsVertexOf q r.a →
    IsVertexOf q r.b → IsVertexOf q r.c → IsVertexOf q r.d → IsRewritten q r
same_tetrahedron v q r hq hr oa ob oc od =
    let n = distinct v r hr in
    let x = first q r.a oa in
    let y = second x.0 r.b (λ e. n.b_a (e ∙ x.2)) (same_vertex r.b q x.0 x.1 ob) in
    let w : IsRewritten q y.0 = rewritten_after q x.0 y.0 x.1 y.1 in
    let o = same_orientation v q y.0 w in
    let h : pos 0 <ℤ orientation_at v y.0 = omega (arith, ints, o, hq) in
    (w.0, w.1 ∙ rest v y.0 r h hr n (y.2 ∙ x.2) y.3 (same_vertex r.c q y.0 w oc) (same_vertex r.d q y.0 w od))
