-- Identities of powers and lifted planes, each proved by multiplying out.
--
--   three_terms    the powers at two cells across a facet
--   three_lifts    the planes of two such cells over a place
--   envelope       the planes of any two cells over a place
--   same_side      the powers at two cells on one side of a facet
--
-- Stands on: geo_sign's words as polynomials.
use Rattle.std.proofs.Common.{◌≡◌, ℤ, List, [], ◌∷◌, ◌+ℤ◌, ◌-ℤ◌, ◌*ℤ◌}
use Rattle.geo_sign.specs.Polynomial.{difference, Polynomial, product, sum, variable}
use Rattle.geo_sign.proofs.Ring.{ring}
use Rattle.geo_sign.specs.Orientation.{orientation}
use Rattle.geo_sign.specs.Point.{Point}
use Rattle.geo_sign.specs.Power.{power}
use Rattle.geo_sign.specs.Rational.{RationalPoint, side}
use Rattle.geo_sign.proofs.Written.{coordinates, orientation', power', RationalSymbols, side', Symbols, symbols, A, B, C, D, P}
use Rattle.cell_laws.specs.Lifts.{lift}

abbrev pub lift' : (a b c d : Symbols) (ha hb hc hd : Polynomial) → RationalSymbols → Polynomial
lift' a b c d ha hb hc hd q =
    sum (sum (sum (product ha (side' b d c q)) (product hb (side' a c d q))) (product hc (side' a d b q)))
    (product hd (side' a b c q))

-- for v = (a,b,c,d) and w = (a,c,b,e): O(v) P(w,p) = O(w) P(v,p) + P(v,e) O(a,b,c,p)
pub three_terms : (a b c d e p : Point) (ha hb hc hd he hp : ℤ)
    → orientation a b c d *ℤ power a c b e p ha hc hb he hp
    ≡ orientation a c b e *ℤ power a b c d p ha hb hc hd hp +ℤ power a b c d e ha hb hc hd he *ℤ orientation a b c p
unfolding orientation power
three_terms a b c d e p ha hb hc hd he hp =
    let xs : List ℤ =
    coordinates a
    (coordinates b (coordinates c (coordinates d (coordinates e (coordinates p (ha ∷ hb ∷ hc ∷ hd ∷ he ∷ hp ∷ [])))))) in
    let E : Symbols = symbols 12 in
    let P : Symbols = symbols 15 in
    let HA : Polynomial = variable 18 in
    let HB : Polynomial = variable 19 in
    let HC : Polynomial = variable 20 in
    let HD : Polynomial = variable 21 in
    let HE : Polynomial = variable 22 in
    let HP : Polynomial = variable 23 in
    ring xs (product (orientation' A B C D) (power' A C B E P HA HC HB HE HP))
    (sum (product (orientation' A C B E) (power' A B C D P HA HB HC HD HP))
    (product (power' A B C D E HA HB HC HD HE) (orientation' A B C P))) tt

-- for v = (a,b,c,d) and w = (a,c,b,e): O(v) E(w,q) = O(w) E(v,q) - P(v,e) side
pub three_lifts : (a b c d e : Point) (q : RationalPoint) (ha hb hc hd he : ℤ)
    → orientation a b c d *ℤ lift a c b e ha hc hb he q
    ≡ orientation a c b e *ℤ lift a b c d ha hb hc hd q -ℤ power a b c d e ha hb hc hd he *ℤ side a b c q
unfolding orientation power lift side
three_lifts a b c d e q ha hb hc hd he =
    let xs : List ℤ =
    coordinates a
    (coordinates b (coordinates c (coordinates d (coordinates e (coordinates q.at (q.over ∷ ha ∷ hb ∷ hc ∷ hd ∷ he ∷ [])))))) in
    let E : Symbols = symbols 12 in
    let Q : RationalSymbols = record { at = symbols 15; over = variable 18 } in
    let HA : Polynomial = variable 19 in
    let HB : Polynomial = variable 20 in
    let HC : Polynomial = variable 21 in
    let HD : Polynomial = variable 22 in
    let HE : Polynomial = variable 23 in
    ring xs (product (orientation' A B C D) (lift' A C B E HA HC HB HE Q))
    (difference (product (orientation' A C B E) (lift' A B C D HA HB HC HD Q))
    (product (power' A B C D E HA HB HC HD HE) (side' A B C Q))) tt

-- any two cells v = (a,b,c,d) and w = (e,f,g,h) at any place q
pub envelope : (a b c d e f g h : Point) (q : RationalPoint) (ha hb hc hd he hf hg hh : ℤ) →
    orientation a b c d *ℤ lift e f g h he hf hg hh q ≡
    orientation e f g h *ℤ lift a b c d ha hb hc hd q +ℤ
    (power a b c d e ha hb hc hd he *ℤ side f h g q +ℤ power a b c d f ha hb hc hd hf *ℤ side e g h q
    +ℤ power a b c d g ha hb hc hd hg *ℤ side e h f q +ℤ power a b c d h ha hb hc hd hh *ℤ side e f g q)
unfolding orientation power lift side
envelope a b c d e f g h q ha hb hc hd he hf hg hh =
    let xs : List ℤ =
    coordinates a
    (coordinates b
    (coordinates c
    (coordinates d
    (coordinates e
    (coordinates f
    (coordinates g (coordinates h (coordinates q.at (q.over ∷ ha ∷ hb ∷ hc ∷ hd ∷ he ∷ hf ∷ hg ∷ hh ∷ []))))))))) in
    let E : Symbols = symbols 12 in
    let F : Symbols = symbols 15 in
    let G : Symbols = symbols 18 in
    let H : Symbols = symbols 21 in
    let Q : RationalSymbols = record { at = symbols 24; over = variable 27 } in
    let HA : Polynomial = variable 28 in
    let HB : Polynomial = variable 29 in
    let HC : Polynomial = variable 30 in
    let HD : Polynomial = variable 31 in
    let HE : Polynomial = variable 32 in
    let HF : Polynomial = variable 33 in
    let HG : Polynomial = variable 34 in
    let HH : Polynomial = variable 35 in
    ring xs (product (orientation' A B C D) (lift' E F G H HE HF HG HH Q))
    (sum (product (orientation' E F G H) (lift' A B C D HA HB HC HD Q))
    (sum (sum (sum (product (power' A B C D E HA HB HC HD HE) (side' F H G Q))
    (product (power' A B C D F HA HB HC HD HF) (side' E G H Q))) (product (power' A B C D G HA HB HC HD HG) (side' E H F Q)))
    (product (power' A B C D H HA HB HC HD HH) (side' E F G Q)))) tt

-- two cells on one side of a facet
pub same_side : (a b c d p u : Point) (ha hb hc hd hp hu : ℤ)
    → orientation a b c p *ℤ power a b c d u ha hb hc hd hu
    ≡ orientation a b c d *ℤ power a b c p u ha hb hc hp hu -ℤ power a b c p d ha hb hc hp hd *ℤ orientation a b c u
unfolding orientation power
same_side a b c d p u ha hb hc hd hp hu =
    let U : Symbols = symbols 15 in
    let HA : Polynomial = variable 18 in
    let HB : Polynomial = variable 19 in
    let HC : Polynomial = variable 20 in
    let HD : Polynomial = variable 21 in
    let HP : Polynomial = variable 22 in
    let HU : Polynomial = variable 23 in
    ring (coordinates a
    (coordinates b (coordinates c (coordinates d (coordinates p (coordinates u (ha ∷ hb ∷ hc ∷ hd ∷ hp ∷ hu ∷ [])))))))
    (product (orientation' A B C P) (power' A B C D U HA HB HC HD HU))
    (difference (product (orientation' A B C D) (power' A B C P U HA HB HC HP HU))
    (product (power' A B C P D HA HB HC HP HD) (orientation' A B C U))) tt
