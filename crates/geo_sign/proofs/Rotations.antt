-- A directed facet written from another vertex on, or in the other direction.
--
--   round f    one vertex on
--
-- Each of the three vertices can come first, and in two directions: six ways to write a facet. Rotations are the powers of
-- `round`, whose third is nothing, and a turn is undone by itself up to a rotation; so each statement is one of nine or three
-- equations. A side is the same one vertex on, and the opposite number where two vertices are exchanged.
use Rattle.std.proofs.Common.{ℕ, ◌≡◌, ap, ap₂, sym, subst, ◌∙◌, inl, inr, Bool, ◌&&◌, ℤ}
use Rattle.std.proofs.Math.Bool.{and_assoc, and_comm}
use Rattle.geo_sign.specs.Rational.{RationalPoint, rational, side}
use Rattle.geo_sign.specs.Tetrahedron.{DirectedFacet, facet, turned, IsRotated, IsTurned}
use Rattle.geo_sign.specs.Vertices.{Vertices}
use Rattle.geo_sign.specs.Sights.{side_of, is_positive, is_negative, is_crossed}
use Rattle.geo_sign.specs.FacetLaws.{SidesAreRotated, SidesAreTurned, CrossingsAreRotated}
use Rattle.geo_sign.proofs.Exchanges.{round_side, turned_side}

abbrev pub round : DirectedFacet → DirectedFacet
round f = facet f.b f.c f.a

-- ---- how rotations and turns follow one another
pub rotated_back : (f g : DirectedFacet) → IsRotated f g → IsRotated g f
rotated_back f g (inl e) = inl (sym e)
rotated_back f g (inr (inl e)) = inr (inr (sym (ap (λ (x : DirectedFacet). round (round x)) e)))
rotated_back f g (inr (inr e)) = inr (inl (sym (ap (λ (x : DirectedFacet). round x) e)))

pub rotated_after : (f g h : DirectedFacet) → IsRotated f g → IsRotated g h → IsRotated f h
rotated_after f g h (inl e) k = subst (λ (x : DirectedFacet). IsRotated x h) e k
rotated_after f g h (inr (inl e)) (inl k) = inr (inl (k ∙ e))
rotated_after f g h (inr (inl e)) (inr (inl k)) = inr (inr (k ∙ ap (λ (x : DirectedFacet). round x) e))
rotated_after f g h (inr (inl e)) (inr (inr k)) = inl (k ∙ ap (λ (x : DirectedFacet). round (round x)) e)
rotated_after f g h (inr (inr e)) (inl k) = inr (inr (k ∙ e))
rotated_after f g h (inr (inr e)) (inr (inl k)) = inl (k ∙ ap (λ (x : DirectedFacet). round x) e)
rotated_after f g h (inr (inr e)) (inr (inr k)) = inr (inl (k ∙ ap (λ (x : DirectedFacet). round (round x)) e))

-- a turned facet is a rotation of the one turned at its first vertex
pub turned_of : (f g : DirectedFacet) → IsTurned f g → IsRotated (turned f) g
turned_of f g (inl e) = inl e
turned_of f g (inr (inl e)) = inr (inl e)
turned_of f g (inr (inr e)) = inr (inr e)

turned_is : (f g : DirectedFacet) → IsRotated (turned f) g → IsTurned f g
turned_is f g (inl e) = inl e
turned_is f g (inr (inl e)) = inr (inl e)
turned_is f g (inr (inr e)) = inr (inr e)

-- facets turned at their first vertices are rotations of one another together with the facets
pub both_turned : (f g : DirectedFacet) → IsRotated f g → IsRotated (turned f) (turned g)
both_turned f g (inl e) = inl (ap (λ (x : DirectedFacet). turned x) e)
both_turned f g (inr (inl e)) = inr (inr (ap (λ (x : DirectedFacet). turned x) e))
both_turned f g (inr (inr e)) = inr (inl (ap (λ (x : DirectedFacet). turned x) e))

pub turned_back : (f g : DirectedFacet) → IsTurned f g → IsTurned g f
turned_back f g h = turned_is g f (both_turned g (turned f) (rotated_back (turned f) g (turned_of f g h)))

pub rotated_turned : (f g h : DirectedFacet) → IsRotated f g → IsTurned g h → IsTurned f h
rotated_turned f g h r t = turned_is f h (rotated_after (turned f) (turned g) h (both_turned f g r) (turned_of g h t))

pub turned_rotated : (f g h : DirectedFacet) → IsTurned f g → IsRotated g h → IsTurned f h
turned_rotated f g h t r = turned_is f h (rotated_after (turned f) g h (turned_of f g t) r)

pub turned_turned : (f g h : DirectedFacet) → IsTurned f g → IsTurned g h → IsRotated f h
turned_turned f g h t u = rotated_after f (turned g) h (both_turned (turned f) g (turned_of f g t)) (turned_of g h u)

-- ---- sides
pub side_rotated : SidesAreRotated
side_rotated v f g q (inl e) = ap (λ (x : DirectedFacet). side_of v x q) e
side_rotated v f g q (inr (inl e)) = ap (λ (x : DirectedFacet). side_of v x q) e ∙ round_side (v.at f.a) (v.at f.b) (v.at f.c) q
side_rotated v f g q (inr (inr e)) =
    ap (λ (x : DirectedFacet). side_of v x q) e ∙ round_side (v.at f.b) (v.at f.c) (v.at f.a) q
    ∙ round_side (v.at f.a) (v.at f.b) (v.at f.c) q

pub side_turned : SidesAreTurned
side_turned v f g q h = side_rotated v (turned f) g q (turned_of f g h) ∙ turned_side (v.at f.a) (v.at f.b) (v.at f.c) q

-- ---- crossings: one vertex on, the three tests of edges are the same in another order
moved_round : (a b c d e : Bool) → (a && b && d && e && c) ≡ (a && b && c && d && e)
moved_round a b c d e =
    let x : Bool = a && b in
    ap (λ (y : Bool). y && c) (and_assoc x d e) ∙ and_assoc x (d && e) c ∙ ap (λ (y : Bool). x && y) (and_comm (d && e) c)
    ∙ sym (and_assoc x c (d && e)) ∙ sym (and_assoc (x && c) d e)

round_crossed : (v : Vertices) (p : ℕ) (s : RationalPoint) (f : DirectedFacet) → is_crossed v p s (round f) ≡ is_crossed v p s f
unfolding is_crossed
round_crossed v p s f =
    let ab = is_positive (side (v.at p) (v.at f.a) (v.at f.b) s) in
    let bc = is_positive (side (v.at p) (v.at f.b) (v.at f.c) s) in
    let ca = is_positive (side (v.at p) (v.at f.c) (v.at f.a) s) in
    ap₂ (λ (x y : ℤ). is_positive x && is_negative y && bc && ca && ab) (round_side (v.at f.a) (v.at f.b) (v.at f.c) s)
    (round_side (v.at f.a) (v.at f.b) (v.at f.c) (rational (v.at p)))
    ∙ moved_round (is_positive (side_of v f s)) (is_negative (side_of v f (rational (v.at p)))) ab bc ca

pub crossed_rotated : CrossingsAreRotated
crossed_rotated v p s f g (inl e) = ap (λ (x : DirectedFacet). is_crossed v p s x) e
crossed_rotated v p s f g (inr (inl e)) = ap (λ (x : DirectedFacet). is_crossed v p s x) e ∙ round_crossed v p s f
crossed_rotated v p s f g (inr (inr e)) =
    ap (λ (x : DirectedFacet). is_crossed v p s x) e ∙ round_crossed v p s (round f) ∙ round_crossed v p s f
