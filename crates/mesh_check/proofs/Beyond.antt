-- A face beyond a plane is far.
--
-- The corners of a face are at least e ahead of a place in a direction n, times the length of n, and e is more than the distance times that
-- length. So is each mean of them. By Cauchy's inequality no vector is shorter than what it goes in a direction, so each point of
-- the face is farther than the distance.
use Rattle.std.proofs.Common.{ℕ, ◌≡◌, ◌+◌, ◌*◌, ◌<◌, ◌≤◌, ◌^◌, ap, sym, subst, ◌∙◌, arith, mul-le-mul, [], ◌∷◌}
use Rattle.std.proofs.Common.{ℤ, pos, negsuc, ◌+ℤ◌, ◌-ℤ◌, ◌*ℤ◌, ◌≤ℤ◌, unsigned_abs}
use Rattle.std.proofs.lemmas.Int.{ints}
use mir.Syntax.{w64}
use Rattle.geo_sign.specs.Point.{Point, step, square, dot}
use Rattle.geo_sign.specs.Polynomial.{Polynomial, variable, sum, difference, product}
use Rattle.geo_sign.proofs.Bounds.{kept, held, held_kept}
use Rattle.geo_sign.proofs.Ring.{ring}
use Rattle.geo_sign.proofs.Written.{Symbols, symbols, coordinates, square', dot', step'}
use Rattle.triangles.specs.Shared.{weighted_sum, weighted}
use Rattle.mesh_cover.specs.Covers.{times, IsMeanNear}

not_negative : (a b : ℤ) → pos 0 ≤ℤ a → pos 0 ≤ℤ b → pos 0 ≤ℤ (a *ℤ b)
not_negative (pos m) (pos n) h k = omega (arith, ints)
not_negative (pos m) (negsuc n) h k = absurd (omega (arith, ints))
not_negative (negsuc m) b h k = absurd (omega (arith, ints))

square_in : (z : ℤ) → pos 0 ≤ℤ (z *ℤ z)
square_in (pos n) = omega (arith, ints)
square_in (negsuc n) = omega (arith, ints)

-- a product with a number that is not negative keeps the order
mul_up : (n s t : ℤ) → pos 0 ≤ℤ n → s ≤ℤ t → (n *ℤ s) ≤ℤ (n *ℤ t)
mul_up n s t some h =
    let d : pos 0 ≤ℤ (t -ℤ s) = omega (arith, ints) in
    let e : pos 0 ≤ℤ (n *ℤ (t -ℤ s)) = not_negative n (t -ℤ s) some d in
    let f : n *ℤ (t -ℤ s) ≡ n *ℤ t -ℤ n *ℤ s =
    ring (n ∷ t ∷ s ∷ []) (product (variable 0) (difference (variable 1) (variable 2)))
    (difference (product (variable 0) (variable 1)) (product (variable 0) (variable 2))) tt in
    over (n *ℤ s) (n *ℤ t) (n *ℤ (t -ℤ s)) e f
  where
    over : (a b d : ℤ) → pos 0 ≤ℤ d → d ≡ b -ℤ a → a ≤ℤ b
    over a b d h e = omega (arith, ints)

-- the square of what a vector goes in a direction is not over the product of the squares
cauchy : (n y : Point) → (dot n y *ℤ dot n y) ≤ℤ (square n *ℤ square y)
cauchy n y =
    below (dot n y *ℤ dot n y) (square n *ℤ square y) (one *ℤ one) (two *ℤ two) (three *ℤ three) (square_in one) (square_in two) (square_in three)
    (ring (coordinates n (coordinates y [])) (product (square' N) (square' Y))
    (sum (product (dot' N Y) (dot' N Y))
    (sum (sum (twice (minor N.y Y.z N.z Y.y)) (twice (minor N.z Y.x N.x Y.z))) (twice (minor N.x Y.y N.y Y.x)))) tt)
  where
    one : ℤ
    one = n.y *ℤ y.z -ℤ n.z *ℤ y.y

    two : ℤ
    two = n.z *ℤ y.x -ℤ n.x *ℤ y.z

    three : ℤ
    three = n.x *ℤ y.y -ℤ n.y *ℤ y.x

    N : Symbols
    N = symbols 0

    Y : Symbols
    Y = symbols 3

    minor : (a b c d : Polynomial) → Polynomial
    minor a b c d = difference (product a b) (product c d)

    twice : Polynomial → Polynomial
    twice p = product p p

    below : (a b r s t : ℤ) → pos 0 ≤ℤ r → pos 0 ≤ℤ s → pos 0 ≤ℤ t → b ≡ a +ℤ (r +ℤ s +ℤ t) → a ≤ℤ b
    below a b r s t h i k e = omega (arith, ints)

-- what a mean goes in a direction is the mean of what the corners go
mean_height : (n q a b c : Point) (m u v w : ℕ)
    → dot n (step (times (u + v + w) q) (times m (weighted a b c u v w)))
    ≡ weighted_sum (dot n (step q (times m a))) (dot n (step q (times m b))) (dot n (step q (times m c))) u v w
mean_height n q a b c m u v w =
    ring (coordinates n (coordinates q (coordinates a (coordinates b (coordinates c (pos m ∷ pos u ∷ pos v ∷ pos w ∷ []))))))
    (dot' N (step' (by T Q) (by M (record { x = mean A.x B.x C.x; y = mean A.y B.y C.y; z = mean A.z B.z C.z }))))
    (mean (dot' N (step' Q (by M A))) (dot' N (step' Q (by M B))) (dot' N (step' Q (by M C)))) tt
  where
    N : Symbols
    N = symbols 0

    Q : Symbols
    Q = symbols 3

    A : Symbols
    A = symbols 6

    B : Symbols
    B = symbols 9

    C : Symbols
    C = symbols 12

    M : Polynomial
    M = variable 15

    T : Polynomial
    T = sum (sum (variable 16) (variable 17)) (variable 18)

    by : Polynomial → Symbols → Symbols
    by k s = record { x = product k s.x; y = product k s.y; z = product k s.z }

    mean : (p q r : Polynomial) → Polynomial
    mean p q r = sum (sum (product (variable 16) p) (product (variable 17) q)) (product (variable 18) r)

-- a mean of numbers that are not below e
mean_over : (e u v w : ℕ) (x y z : ℤ) → pos e ≤ℤ x → pos e ≤ℤ y → pos e ≤ℤ z → pos ((u + v + w) * e) ≤ℤ weighted_sum x y z u v w
mean_over e u v w x y z h i k =
    all (pos u *ℤ pos e) (pos v *ℤ pos e) (pos w *ℤ pos e) (pos u *ℤ x) (pos v *ℤ y) (pos w *ℤ z) (pos ((u + v + w) * e))
    (mul_up (pos u) (pos e) x (whole u) h) (mul_up (pos v) (pos e) y (whole v) i) (mul_up (pos w) (pos e) z (whole w) k)
    (ring (pos u ∷ pos v ∷ pos w ∷ pos e ∷ []) (product (sum (sum (variable 0) (variable 1)) (variable 2)) (variable 3))
    (sum (sum (product (variable 0) (variable 3)) (product (variable 1) (variable 3))) (product (variable 2) (variable 3))) tt)
  where
    whole : (n : ℕ) → pos 0 ≤ℤ pos n
    whole n = omega (arith, ints)

    all : (a b c x y z s : ℤ) → a ≤ℤ x → b ≤ℤ y → c ≤ℤ z → s ≡ a +ℤ b +ℤ c → s ≤ℤ (x +ℤ y +ℤ z)
    all a b c x y z s h i k e = omega (arith, ints)

-- squares of numbers that are not negative keep the order
square_up : (k : ℕ) (d : ℤ) → pos k ≤ℤ d → pos (k * k) ≤ℤ (d *ℤ d)
square_up k (pos d) h = le_pos (k * k) (d * d) (mul-le-mul (below k d h) (below k d h))
  where
    le_pos : (m n : ℕ) → m ≤ n → pos m ≤ℤ pos n
    le_pos m n h = omega (arith, ints)

    below : (m n : ℕ) → pos m ≤ℤ pos n → m ≤ n
    below m n h = omega (arith, ints)
square_up k (negsuc d) h = absurd (omega (arith, ints))

-- each point of a face beyond such a plane is far
pub beyond : (n q a b c : Point) (m within e s u v w : ℕ) → pos s ≡ square n → m * within * (m * within) * s < e * e
    → pos e ≤ℤ dot n (step q (times m a)) → pos e ≤ℤ dot n (step q (times m b)) → pos e ≤ℤ dot n (step q (times m c))
    → ¬ IsMeanNear within m q a b c u v w
beyond n q a b c m within e s u v w s_is over h i k = λ near.
    let t = u + v + w in
    let y : Point = step (times t q) (times m (weighted a b c u v w)) in
    let ahead : pos (t * e) ≤ℤ dot n y =
    subst (λ (x : ℤ). pos (t * e) ≤ℤ x) (sym (mean_height n q a b c m u v w)) (mean_over e u v w _ _ _ h i k) in
    let long : pos (t * e * (t * e)) ≤ℤ (pos s *ℤ square y) =
    trans _ _ _ (square_up (t * e) (dot n y) ahead)
    (subst (λ (x : ℤ). (dot n y *ℤ dot n y) ≤ℤ (x *ℤ square y)) (sym s_is) (cauchy n y)) in
    let short : (pos s *ℤ square y) ≤ℤ (pos s *ℤ pos (m * t * within * (m * t * within))) =
    mul_up (pos s) (square y) (pos (m * t * within * (m * t * within))) (omega (arith, ints)) near.1 in
    let both : pos (t * e * (t * e)) ≤ℤ (pos s *ℤ pos (m * t * within * (m * t * within))) = trans _ _ _ long short in
    let same : pos s *ℤ pos (m * t * within * (m * t * within)) ≡ pos (t * t * (m * within * (m * within) * s)) =
    ring (pos s ∷ pos m ∷ pos t ∷ pos within ∷ [])
    (product (variable 0) (product (product (product (variable 1) (variable 2)) (variable 3)) (product (product (variable 1) (variable 2)) (variable 3))))
    (product (product (variable 2) (variable 2))
    (product (product (product (variable 1) (variable 3)) (product (variable 1) (variable 3))) (variable 0))) tt in
    let twice : pos (t * e * (t * e)) ≡ pos (t * t * (e * e)) =
    ring (pos t ∷ pos e ∷ []) (product (product (variable 0) (variable 1)) (product (variable 0) (variable 1)))
    (product (product (variable 0) (variable 0)) (product (variable 1) (variable 1))) tt in
    not_both (t * t) (e * e) (m * within * (m * within) * s) (positive t near.0) over (down _ _ _ _ both twice same)
  where
    trans : (a b c : ℤ) → a ≤ℤ b → b ≤ℤ c → a ≤ℤ c
    trans a b c h k = omega (arith, ints)

    positive : (t : ℕ) → 0 < t → 0 < t * t
    positive t h = grind arith

    down : (a b : ℤ) (x y : ℕ) → a ≤ℤ b → a ≡ pos x → b ≡ pos y → x ≤ y
    down a b x y h e f = omega (arith, ints)

    not_both : (t x y : ℕ) → 0 < t → y < x → t * x ≤ t * y → ⊥
    not_both t x y h i k = grind (arith, h, i, k)

-- a height as the code computes it
pub ahead_of : (e r : ℕ) (h : ℤ) (n d k : Point) → 0 < e → e ≤ r → (0 < r → pos r ≡ kept w64 h) → h ≡ dot n d → unsigned_abs h ≤ 3 * 2 ^ 57
    → d ≡ k
    → pos e ≤ℤ dot n k
ahead_of e r h n d k some below is h_is within d_is =
    let exact : kept w64 h ≡ h = (held_kept w64 (held (3 * 2 ^ 57) h within) tt).is in
    let up : 0 < r = omega (arith, some, below) in
    over e r (dot n k) below (is up ∙ exact ∙ h_is ∙ ap (λ (p : Point). dot n p) d_is)
  where
    over : (e r : ℕ) (z : ℤ) → e ≤ r → pos r ≡ z → pos e ≤ℤ z
    over e r z h is = omega (arith, ints)
