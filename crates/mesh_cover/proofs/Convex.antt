-- The places within a distance of one face are convex.
--
-- On one axis the sum of weights times the weighted sum of squares is the square of the weighted sum, plus products of weights and squares
-- of differences, which are not negative (one_axis). So the mean of vectors that are not longer than r is not longer than r (mean_within).
-- Three corners of a triangle, each near a point of one face, have vectors to these points; those of their means are the means of
-- these vectors (mean_near).
use Rattle.std.proofs.Common.{ℕ, ◌≡◌, ◌+◌, ◌*◌, ◌<◌, ap, sym, subst, ◌∙◌, arith, [], ◌∷◌}
use Rattle.std.proofs.Common.{ℤ, pos, negsuc, ◌+ℤ◌, ◌-ℤ◌, ◌*ℤ◌, ◌≤ℤ◌}
use Rattle.std.proofs.lemmas.Int.{ints}
use Rattle.geo_sign.specs.Point.{Point, step, square}
use Rattle.geo_sign.specs.Polynomial.{Polynomial, variable, sum, difference, product}
use Rattle.geo_sign.proofs.Bounds.{same_place}
use Rattle.geo_sign.proofs.Ring.{ring}
use Rattle.geo_sign.proofs.Written.{Symbols, symbols, coordinates, square'}
use Rattle.triangles.specs.Shared.{weighted_sum, weighted}
use Rattle.mesh_cover.specs.Covers.{times, IsMeanNear}

mul_not_negative : (a b : ℤ) → pos 0 ≤ℤ a → pos 0 ≤ℤ b → pos 0 ≤ℤ (a *ℤ b)
mul_not_negative (pos m) (pos n) h k = omega (arith, ints)
mul_not_negative (pos m) (negsuc n) h k = absurd (omega (arith, ints))
mul_not_negative (negsuc m) b h k = absurd (omega (arith, ints))

square_in : (z : ℤ) → pos 0 ≤ℤ (z *ℤ z)
square_in (pos n) = omega (arith, ints)
square_in (negsuc n) = omega (arith, ints)

-- a weighted sum of polynomials
abbrev mean : (p q r u v w : Polynomial) → Polynomial
mean p q r u v w = sum (sum (product u p) (product v q)) (product w r)

-- a product with a whole number keeps the order
pub mul_up : (n : ℕ) (s t : ℤ) → s ≤ℤ t → (pos n *ℤ s) ≤ℤ (pos n *ℤ t)
mul_up n s t h =
    let d : pos 0 ≤ℤ (t -ℤ s) = omega (arith, ints) in
    let e : pos 0 ≤ℤ (pos n *ℤ (t -ℤ s)) = mul_not_negative (pos n) (t -ℤ s) (omega (arith, ints)) d in
    let f : pos n *ℤ (t -ℤ s) ≡ pos n *ℤ t -ℤ pos n *ℤ s =
    ring (pos n ∷ t ∷ s ∷ []) (product (variable 0) (difference (variable 1) (variable 2)))
    (difference (product (variable 0) (variable 1)) (product (variable 0) (variable 2))) tt in
    apart (pos n *ℤ s) (pos n *ℤ t) (pos n *ℤ (t -ℤ s)) e f
  where
    apart : (a b d : ℤ) → pos 0 ≤ℤ d → d ≡ b -ℤ a → a ≤ℤ b
    apart a b d h e = omega (arith, ints)

pub le_trans : (a b c : ℤ) → a ≤ℤ b → b ≤ℤ c → a ≤ℤ c
le_trans a b c h k = omega (arith, ints)

-- the square of a weighted sum
one_axis : (u v w : ℕ) (x y z : ℤ)
    → (weighted_sum x y z u v w *ℤ weighted_sum x y z u v w) ≤ℤ (pos (u + v + w) *ℤ weighted_sum (x *ℤ x) (y *ℤ y) (z *ℤ z) u v w)
one_axis u v w x y z =
    below (weighted_sum x y z u v w *ℤ weighted_sum x y z u v w) (pos (u + v + w) *ℤ weighted_sum (x *ℤ x) (y *ℤ y) (z *ℤ z) u v w)
    (pos (u * v) *ℤ ((x -ℤ y) *ℤ (x -ℤ y))) (pos (u * w) *ℤ ((x -ℤ z) *ℤ (x -ℤ z))) (pos (v * w) *ℤ ((y -ℤ z) *ℤ (y -ℤ z)))
    (spread u v (x -ℤ y)) (spread u w (x -ℤ z)) (spread v w (y -ℤ z))
    (ring (x ∷ y ∷ z ∷ pos u ∷ pos v ∷ pos w ∷ [])
    (product (sum (sum U V) W) (mean (product X X) (product Y Y) (product Z Z) U V W))
    (sum (product (mean X Y Z U V W) (mean X Y Z U V W))
    (sum (sum (product (product U V) (off X Y)) (product (product U W) (off X Z))) (product (product V W) (off Y Z)))) tt)
  where
    X : Polynomial
    X = variable 0

    Y : Polynomial
    Y = variable 1

    Z : Polynomial
    Z = variable 2

    U : Polynomial
    U = variable 3

    V : Polynomial
    V = variable 4

    W : Polynomial
    W = variable 5

    off : Polynomial → Polynomial → Polynomial
    off p q = product (difference p q) (difference p q)

    spread : (m n : ℕ) (d : ℤ) → pos 0 ≤ℤ (pos (m * n) *ℤ (d *ℤ d))
    spread m n d = mul_not_negative (pos (m * n)) (d *ℤ d) (omega (arith, ints)) (square_in d)

    below : (a b r s t : ℤ) → pos 0 ≤ℤ r → pos 0 ≤ℤ s → pos 0 ≤ℤ t → b ≡ a +ℤ (r +ℤ s +ℤ t) → a ≤ℤ b
    below a b r s t h i k e = omega (arith, ints)

-- the same of vectors
mean_square : (d e f : Point) (u v w : ℕ)
    → square (weighted d e f u v w) ≤ℤ (pos (u + v + w) *ℤ weighted_sum (square d) (square e) (square f) u v w)
mean_square d e f u v w =
    all _ _ _ _ _ _ _ (one_axis u v w d.x e.x f.x) (one_axis u v w d.y e.y f.y) (one_axis u v w d.z e.z f.z)
    (ring (coordinates d (coordinates e (coordinates f (pos u ∷ pos v ∷ pos w ∷ []))))
    (product (sum (sum U V) W) (mean (square' D) (square' E) (square' F) U V W))
    (sum (sum (product (sum (sum U V) W) (mean (product D.x D.x) (product E.x E.x) (product F.x F.x) U V W))
    (product (sum (sum U V) W) (mean (product D.y D.y) (product E.y E.y) (product F.y F.y) U V W)))
    (product (sum (sum U V) W) (mean (product D.z D.z) (product E.z E.z) (product F.z F.z) U V W))) tt)
  where
    D : Symbols
    D = symbols 0

    E : Symbols
    E = symbols 3

    F : Symbols
    F = symbols 6

    U : Polynomial
    U = variable 9

    V : Polynomial
    V = variable 10

    W : Polynomial
    W = variable 11

    all : (a b c x y z s : ℤ) → a ≤ℤ x → b ≤ℤ y → c ≤ℤ z → s ≡ x +ℤ y +ℤ z → (a +ℤ b +ℤ c) ≤ℤ s
    all a b c x y z s h i k e = omega (arith, ints)

-- the mean of vectors that are not longer than r is not longer
pub mean_within : (d e f : Point) (u v w r : ℕ) → square d ≤ℤ pos (r * r) → square e ≤ℤ pos (r * r) → square f ≤ℤ pos (r * r)
    → square (weighted d e f u v w) ≤ℤ pos ((u + v + w) * r * ((u + v + w) * r))
mean_within d e f u v w r h i k =
    let up : weighted_sum (square d) (square e) (square f) u v w ≤ℤ weighted_sum (pos (r * r)) (pos (r * r)) (pos (r * r)) u v w =
    all _ _ _ _ _ _ (mul_up u (square d) (pos (r * r)) h) (mul_up v (square e) (pos (r * r)) i) (mul_up w (square f) (pos (r * r)) k) in
    let times_all : (pos (u + v + w) *ℤ weighted_sum (square d) (square e) (square f) u v w) ≤ℤ (pos (u + v + w) *ℤ weighted_sum (pos (r * r)) (pos (r * r)) (pos (r * r)) u v w) =
    mul_up (u + v + w) _ _ up in
    let same : pos (u + v + w) *ℤ weighted_sum (pos (r * r)) (pos (r * r)) (pos (r * r)) u v w ≡ pos ((u + v + w) * r * ((u + v + w) * r)) =
    ring (pos u ∷ pos v ∷ pos w ∷ pos r ∷ []) (product N (mean RR RR RR (variable 0) (variable 1) (variable 2)))
    (product (product N R) (product N R)) tt in
    le_trans _ _ _ (mean_square d e f u v w) (subst (λ (t : ℤ). (pos (u + v + w) *ℤ weighted_sum (square d) (square e) (square f) u v w) ≤ℤ t) same times_all)
  where
    N : Polynomial
    N = sum (sum (variable 0) (variable 1)) (variable 2)

    R : Polynomial
    R = variable 3

    RR : Polynomial
    RR = product R R

    all : (a b c x y z : ℤ) → a ≤ℤ x → b ≤ℤ y → c ≤ℤ z → (a +ℤ b +ℤ c) ≤ℤ (x +ℤ y +ℤ z)
    all a b c x y z h i k = omega (arith, ints)

-- the weights of a mean of means
abbrev pub mixed : (u v w x y z : ℕ) → ℕ
mixed u v w x y z = u * x + v * y + w * z

-- their sum
total : (u v w k l m o p q r s t n : ℕ) → k + l + m ≡ n → o + p + q ≡ n → r + s + t ≡ n
    → mixed u v w k o r + mixed u v w l p s + mixed u v w m q t ≡ (u + v + w) * n
total u v w k l m o p q r s t n e f g =
    pos_same _ _
    (ring (pos u ∷ pos v ∷ pos w ∷ pos k ∷ pos l ∷ pos m ∷ pos o ∷ pos p ∷ pos q ∷ pos r ∷ pos s ∷ pos t ∷ [])
    (sum (sum (by 3 6 9) (by 4 7 10)) (by 5 8 11))
    (sum (sum (product (variable 0) (three 3)) (product (variable 1) (three 6))) (product (variable 2) (three 9))) tt
    ∙ (ap (λ (x : ℕ). pos (u * x + v * (o + p + q) + w * (r + s + t))) e
    ∙ (ap (λ (x : ℕ). pos (u * n + v * x + w * (r + s + t))) f ∙ ap (λ (x : ℕ). pos (u * n + v * n + w * x)) g))
    ∙ ring (pos u ∷ pos v ∷ pos w ∷ pos n ∷ [])
    (sum (sum (product (variable 0) (variable 3)) (product (variable 1) (variable 3))) (product (variable 2) (variable 3)))
    (product (sum (sum (variable 0) (variable 1)) (variable 2)) (variable 3)) tt)
  where
    by : (i j k : ℕ) → Polynomial
    by i j k = sum (sum (product (variable 0) (variable i)) (product (variable 1) (variable j))) (product (variable 2) (variable k))

    three : ℕ → Polynomial
    three i = sum (sum (variable i) (variable (i + 1))) (variable (i + 2))

    pos_same : (a b : ℕ) → pos a ≡ pos b → a ≡ b
    pos_same a b e = omega (arith, ints)

-- on one axis the difference of the means is the mean of the differences
gap_of_means : (a b c x y z : ℤ) (j n u v w k l m o p q r s t : ℕ)
    → pos (j * (u + v + w)) *ℤ weighted_sum x y z (mixed u v w k o r) (mixed u v w l p s) (mixed u v w m q t) -ℤ pos ((u + v + w) * n) *ℤ weighted_sum a b c u v w
    ≡ pos (u + v + w) *ℤ weighted_sum (pos j *ℤ weighted_sum x y z k l m -ℤ pos n *ℤ a) (pos j *ℤ weighted_sum x y z o p q -ℤ pos n *ℤ b) (pos j *ℤ weighted_sum x y z r s t -ℤ pos n *ℤ c) u v w
gap_of_means a b c x y z j n u v w k l m o p q r s t =
    ring (a ∷ b ∷ c ∷ x ∷ y ∷ z ∷ pos j ∷ pos n ∷ pos u ∷ pos v ∷ pos w ∷ pos k ∷ pos l ∷ pos m ∷ pos o ∷ pos p ∷ pos q ∷ pos r ∷ pos s ∷ pos t ∷ [])
    (difference (product (product J S) (mean X Y Z (by 11 14 17) (by 12 15 18) (by 13 16 19))) (product (product S N) (mean A B C U V W)))
    (product S (mean (gap 11 A) (gap 14 B) (gap 17 C) U V W)) tt
  where
    A : Polynomial
    A = variable 0

    B : Polynomial
    B = variable 1

    C : Polynomial
    C = variable 2

    X : Polynomial
    X = variable 3

    Y : Polynomial
    Y = variable 4

    Z : Polynomial
    Z = variable 5

    J : Polynomial
    J = variable 6

    N : Polynomial
    N = variable 7

    U : Polynomial
    U = variable 8

    V : Polynomial
    V = variable 9

    W : Polynomial
    W = variable 10

    S : Polynomial
    S = sum (sum U V) W

    by : (i j k : ℕ) → Polynomial
    by i j k = sum (sum (product U (variable i)) (product V (variable j))) (product W (variable k))

    gap : ℕ → Polynomial → Polynomial
    gap i q = difference (product J (mean X Y Z (variable i) (variable (i + 1)) (variable (i + 2)))) (product N q)

-- the square of a vector times a number
pub square_times : (k : ℕ) (e : Point) → square (times k e) ≡ pos (k * k) *ℤ square e
square_times k e =
    ring (coordinates e (pos k ∷ [])) (square' (record { x = product K E.x; y = product K E.y; z = product K E.z }))
    (product (product K K) (square' E)) tt
  where
    E : Symbols
    E = symbols 0

    K : Polynomial
    K = variable 3

-- the weights have the sum n, and their mean is near
abbrev pub IsNearByTotal : (n within m : ℕ) → (q a b c : Point) → (u v w : ℕ) → Type 0
IsNearByTotal n within m q a b c u v w =
    (u + v + w ≡ n) × (square (step (times n q) (times m (weighted a b c u v w))) ≤ℤ pos (m * n * within * (m * n * within)))

-- the mean of three places, each near a point of one face, is near the mean of these points
pub mean_near : (n within j : ℕ) (a b c x y z : Point) (k l m o p q r s t u v w : ℕ) → 0 < n
    → IsNearByTotal n within j a x y z k l m → IsNearByTotal n within j b x y z o p q → IsNearByTotal n within j c x y z r s t
    → 0 < u + v + w
    → IsMeanNear within (j * (u + v + w)) (weighted a b c u v w) x y z (mixed u v w k o r) (mixed u v w l p s) (mixed u v w m q t)
mean_near n within j a b c x y z k l m o p q r s t u v w some one two three any =
    let sums : mixed u v w k o r + mixed u v w l p s + mixed u v w m q t ≡ (u + v + w) * n =
    total u v w k l m o p q r s t n one.0 two.0 three.0 in
    subst (λ (h : ℕ). (0 < h) × (square (step (times h (weighted a b c u v w)) (times (j * (u + v + w)) (weighted x y z (mixed u v w k o r) (mixed u v w l p s) (mixed u v w m q t)))) ≤ℤ pos (j * (u + v + w) * h * within * (j * (u + v + w) * h * within))))
    (sym sums) (
      more (u + v + w) n any some,
      subst (λ (g : Point). square g ≤ℤ pos (j * (u + v + w) * ((u + v + w) * n) * within * (j * (u + v + w) * ((u + v + w) * n) * within))) (sym vector)
          (subst (λ (g : ℤ). g ≤ℤ pos (j * (u + v + w) * ((u + v + w) * n) * within * (j * (u + v + w) * ((u + v + w) * n) * within))) (sym (square_times (u + v + w) e))
          (subst (λ (g : ℤ). (pos ((u + v + w) * (u + v + w)) *ℤ square e) ≤ℤ g) reach
          (mul_up ((u + v + w) * (u + v + w)) (square e) (pos ((u + v + w) * (j * n * within) * ((u + v + w) * (j * n * within))))
          (mean_within (gap a k l m) (gap b o p q) (gap c r s t) u v w (j * n * within) one.1 two.1 three.1)))),
    )
  where
    gap : Point → (k l m : ℕ) → Point
    gap h k l m = step (times n h) (times j (weighted x y z k l m))

    e : Point
    e = weighted (gap a k l m) (gap b o p q) (gap c r s t) u v w

    more : (h i : ℕ) → 0 < h → 0 < i → 0 < h * i
    more h i d e = grind arith

    vector : step (times ((u + v + w) * n) (weighted a b c u v w)) (times (j * (u + v + w)) (weighted x y z (mixed u v w k o r) (mixed u v w l p s) (mixed u v w m q t))) ≡ times (u + v + w) e
    vector =
        same_place _ _ _ _ _ _ (gap_of_means a.x b.x c.x x.x y.x z.x j n u v w k l m o p q r s t)
        (gap_of_means a.y b.y c.y x.y y.y z.y j n u v w k l m o p q r s t)
        (gap_of_means a.z b.z c.z x.z y.z z.z j n u v w k l m o p q r s t)

    S : Polynomial
    S = sum (sum (variable 0) (variable 1)) (variable 2)

    far : Polynomial
    far = product S (product (product (variable 3) (variable 4)) (variable 5))

    whole : Polynomial
    whole = product (product (product (variable 3) S) (product S (variable 4))) (variable 5)

    reach : pos ((u + v + w) * (u + v + w)) *ℤ pos ((u + v + w) * (j * n * within) * ((u + v + w) * (j * n * within)))
        ≡ pos (j * (u + v + w) * ((u + v + w) * n) * within * (j * (u + v + w) * ((u + v + w) * n) * within))
    reach =
        ring (pos u ∷ pos v ∷ pos w ∷ pos j ∷ pos n ∷ pos within ∷ []) (product (product S S) (product far far)) (product whole whole) tt
