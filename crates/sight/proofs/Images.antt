-- Why a determinant of images tells a side.
--
-- For a screen of vectors r and u and two vectors a and d, (r . a) (u . d) - (r . d) (u . a) is (r x u) . (a x d) (`by_screen`).
-- Where r x u is the line of sight l times c, that is c times (d x l) . a (`by_line`), the orientation of the sight's point, d, the
-- scanner and a. As c is not below zero, the determinant has its sign where it is not zero itself (`same_sign`).
use Rattle.std.proofs.Common.{◌≡◌, refl, ap, ap₂, ◌∙◌, arith, Bool, IsTrue, ◌↔◌, ℤ, pos, neg_ℤ, ◌<ℤ◌, ◌≤ℤ◌, ◌-ℤ◌, ◌*ℤ◌, [], ◌∷◌}
use Rattle.std.proofs.lemmas.Int.{ints, by_lt_z}
use Rattle.geo_sign.specs.Orientation.{orientation}
use Rattle.geo_sign.specs.declared.point.TheConstants.{BOX_LIMIT}
use Rattle.geo_sign.specs.Point.{Point, point, IsWithin, step, cross, dot}
use Rattle.geo_sign.specs.Rational.{side, displaced}
use Rattle.geo_sign.specs.Polynomial.{variable, constant, difference, product, negation}
use Rattle.geo_sign.proofs.Bounds.{same_place}
use Rattle.geo_sign.proofs.Ring.{ring}
use Rattle.geo_sign.proofs.Written.{Symbols, coordinates, symbols, cross', dot'}
use Rattle.cell_laws.proofs.Order.{cancel_lt}
use Rattle.sight.proofs.Planes.{before_by}
use Rattle.sight.specs.declared.image.Screen.{Screen}
use Rattle.sight.specs.declared.image.Image.{Image}
use Rattle.sight.specs.Images.{along, scaled, IsScreen, IsImage}

by_screen : (r u a d : Point) → dot r a *ℤ dot u d -ℤ dot r d *ℤ dot u a ≡ dot (cross r u) (cross a d)
by_screen r u a d =
    ring (coordinates r (coordinates u (coordinates a (coordinates d []))))
    (difference (product (dot' (symbols 0) (symbols 6)) (dot' (symbols 3) (symbols 9)))
    (product (dot' (symbols 0) (symbols 9)) (dot' (symbols 3) (symbols 6))))
    (dot' (cross' (symbols 0) (symbols 3)) (cross' (symbols 6) (symbols 9))) tt

by_line : (l a d : Point) (c : ℤ) → dot (scaled l c) (cross a d) ≡ dot (cross d l) a *ℤ c
by_line l a d c =
    ring (coordinates l (coordinates a (coordinates d (c ∷ []))))
    (dot'
    (record {
      x = product (variable 0) (variable 9);
      y = product (variable 1) (variable 9);
      z = product (variable 2) (variable 9);
    })
    (cross' (symbols 3) (symbols 6))) (product (dot' (cross' (symbols 6) (symbols 0)) (symbols 3)) (variable 9)) tt

-- the determinant is the orientation times the screen's number
pub determinant_is : (w : Screen) (p s a d : Point) (i j : Image) (h : IsScreen w (step p s)) → IsImage w p a i → IsImage w p d j
    → i.right *ℤ j.up -ℤ j.right *ℤ i.up ≡ orientation p d s a *ℤ h.stretch
unfolding orientation
determinant_is w p s a d i j h k l =
    ap₂ (λ (x y : ℤ). x -ℤ y) (ap₂ (λ (x y : ℤ). x *ℤ y) k.right l.up) (ap₂ (λ (x y : ℤ). x *ℤ y) l.right k.up)
    ∙ by_screen (along w.right) (along w.up) (step p a) (step p d)
    ∙ ap (λ (q : Point). dot q (cross (step p a) (step p d))) h.product ∙ by_line (step p s) (step p a) (step p d) h.stretch

zero_times : (c : ℤ) → pos 0 *ℤ c ≡ pos 0
zero_times c = ring (c ∷ []) (product (constant (pos 0)) (variable 0)) (constant (pos 0)) tt

-- a product with a number that is not below zero has the sign of the other, where it is not zero
pub above_by : (n o c : ℤ) → n ≡ o *ℤ c → pos 0 ≤ℤ c → pos 0 <ℤ n → pos 0 <ℤ o
above_by n o c e h l = cancel_lt (pos 0) o c (let z = zero_times c in omega (arith, ints, z, e, l)) h

pub below_by : (n o c : ℤ) → n ≡ o *ℤ c → pos 0 ≤ℤ c → n <ℤ pos 0 → o <ℤ pos 0
below_by n o c e h l = cancel_lt o (pos 0) c (let z = zero_times c in omega (arith, ints, z, e, l)) h

-- so the sign of a determinant that is not zero tells on which side of p, a and d the displaced scanner is
pub before_seen : (w : Screen) (p s a d : Point) (i j : Image) → IsScreen w (step p s) → IsImage w p a i → IsImage w p d j
    → IsWithin BOX_LIMIT p → IsWithin BOX_LIMIT a → IsWithin BOX_LIMIT d → (n : ℤ)
    → n ≡ i.right *ℤ j.up -ℤ j.right *ℤ i.up → ¬ (n ≡ pos 0) → (test : Bool) → IsTrue test ↔ (pos 0 <ℤ n)
    → IsTrue test ↔ (pos 0 <ℤ side p a d (displaced s))
before_seen w p s a d i j h k l within_p within_a within_d n e not_zero test is =
    before_by p a d s within_p within_a within_d o refl
    (λ z. not_zero (f ∙ ap (λ (x : ℤ). x *ℤ c) z ∙ zero_times c)) test
    (λ t. above_by n o c f h.not_negative (is.0 t), λ t. is.1 (above t))
  where
    o : ℤ
    o = orientation p d s a

    c : ℤ
    c = h.stretch

    f : n ≡ orientation p d s a *ℤ h.stretch
    f = e ∙ determinant_is w p s a d i j h k l

    above : pos 0 <ℤ orientation p d s a → pos 0 <ℤ n
    above t =
        by_lt_z (pos 0) n (λ g. g)
        (λ g. by_lt_z n (pos 0)
        (λ m. let b = below_by n (orientation p d s a) h.stretch f h.not_negative m in absurd (omega (arith, ints, b, t)))
        (λ m. absurd (not_zero (omega (arith, ints, g, m)))))

-- ---- screens
-- the vector product of two vectors in the other order
pub exchanged : (a b u : Point) (k : ℤ) → cross a b ≡ scaled u k → cross b a ≡ scaled u (neg_ℤ k)
exchanged a b u k e =
    same_place _ _ _ _ _ _ (opposite a.y b.z a.z b.y ∙ ap (λ (q : Point). neg_ℤ q.x) e ∙ negated u.x k)
    (opposite a.z b.x a.x b.z ∙ ap (λ (q : Point). neg_ℤ q.y) e ∙ negated u.y k)
    (opposite a.x b.y a.y b.x ∙ ap (λ (q : Point). neg_ℤ q.z) e ∙ negated u.z k)
  where
    opposite : (f g h i : ℤ) → i *ℤ h -ℤ g *ℤ f ≡ neg_ℤ (f *ℤ g -ℤ h *ℤ i)
    opposite f g h i =
        ring (f ∷ g ∷ h ∷ i ∷ []) (difference (product (variable 3) (variable 2)) (product (variable 1) (variable 0)))
        (negation (difference (product (variable 0) (variable 1)) (product (variable 2) (variable 3)))) tt

    negated : (f g : ℤ) → neg_ℤ (f *ℤ g) ≡ f *ℤ neg_ℤ g
    negated f g =
        ring (f ∷ g ∷ []) (negation (product (variable 0) (variable 1))) (product (variable 0) (negation (variable 1))) tt

-- the vectors beside the axes
abbrev beside_first' : Symbols
beside_first' = record { x = constant (pos 0); y = variable 2; z = negation (variable 1) }

abbrev beside_second' : Symbols
beside_second' = record { x = negation (variable 2); y = constant (pos 0); z = variable 0 }

abbrev beside_third' : Symbols
beside_third' = record { x = variable 1; y = negation (variable 0); z = constant (pos 0) }

abbrev pub beside_first : Point → Point
beside_first u = point (pos 0) u.z (neg_ℤ u.y)

abbrev pub beside_second : Point → Point
beside_second u = point (neg_ℤ u.z) (pos 0) u.x

abbrev pub beside_third : Point → Point
beside_third u = point u.y (neg_ℤ u.x) (pos 0)

pub first_second : (u : Point) → cross (beside_first u) (beside_second u) ≡ scaled u u.z
first_second u =
    same_place _ _ _ _ _ _
    (ring (coordinates u []) (cross' beside_first' beside_second').x (product (variable 0) (variable 2)) tt)
    (ring (coordinates u []) (cross' beside_first' beside_second').y (product (variable 1) (variable 2)) tt)
    (ring (coordinates u []) (cross' beside_first' beside_second').z (product (variable 2) (variable 2)) tt)

pub second_third : (u : Point) → cross (beside_second u) (beside_third u) ≡ scaled u u.x
second_third u =
    same_place _ _ _ _ _ _
    (ring (coordinates u []) (cross' beside_second' beside_third').x (product (variable 0) (variable 0)) tt)
    (ring (coordinates u []) (cross' beside_second' beside_third').y (product (variable 1) (variable 0)) tt)
    (ring (coordinates u []) (cross' beside_second' beside_third').z (product (variable 2) (variable 0)) tt)

pub third_first : (u : Point) → cross (beside_third u) (beside_first u) ≡ scaled u u.y
third_first u =
    same_place _ _ _ _ _ _
    (ring (coordinates u []) (cross' beside_third' beside_first').x (product (variable 0) (variable 1)) tt)
    (ring (coordinates u []) (cross' beside_third' beside_first').y (product (variable 1) (variable 1)) tt)
    (ring (coordinates u []) (cross' beside_third' beside_first').z (product (variable 2) (variable 1)) tt)
