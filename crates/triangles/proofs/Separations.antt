-- A plane between two triangles, by the heights of their corners over it.
--
-- Weights that give one point give it one height over any plane: the mean of the heights of one triangle's corners, and of the
-- other's (same_height). Where no corner of the one is below a height m and none of the other above it, the place is at m, so what is
-- above m or below it has the weight 0 (weights_gone): a sum of products of numbers that are not negative is 0 only where each is.
use Rattle.std.proofs.Common.{ℕ, ◌≡◌, ◌+◌, ◌*◌, ◌<◌, ap, ap₂, sym, ◌∙◌, arith, ℤ, pos, ◌+ℤ◌, ◌-ℤ◌, ◌*ℤ◌, ◌≤ℤ◌, ◌<ℤ◌, unsigned_abs, [], ◌∷◌, zero, suc}
use Rattle.std.proofs.lemmas.Int.{ints}
use Rattle.geo_sign.specs.Point.{Point, step, dot}
use Rattle.geo_sign.specs.Polynomial.{Polynomial, variable, sum, difference, product}
use Rattle.geo_sign.proofs.Ring.{ring}
use Rattle.geo_sign.proofs.Written.{Symbols, symbols, coordinates, step', dot'}
use Rattle.triangles.specs.Shared.{weighted_sum, weighted}

-- the height of a weighted sum, over the plane through o
height_sum : (n o a b c : Point) (u v w : ℕ)
    → weighted_sum (dot n (step o a)) (dot n (step o b)) (dot n (step o c)) u v w
    ≡ dot n (weighted a b c u v w) -ℤ (pos u +ℤ pos v +ℤ pos w) *ℤ dot n o
height_sum n o a b c u v w =
    let N : Symbols = symbols 0 in
    let O : Symbols = symbols 3 in
    let A : Symbols = symbols 6 in
    let B : Symbols = symbols 9 in
    let C : Symbols = symbols 12 in
    let U : Polynomial = variable 15 in
    let V : Polynomial = variable 16 in
    let W : Polynomial = variable 17 in
    let mean = λ (p q r : Polynomial). sum (sum (product U p) (product V q)) (product W r) in
    ring (coordinates n (coordinates o (coordinates a (coordinates b (coordinates c (pos u ∷ pos v ∷ pos w ∷ []))))))
    (mean (dot' N (step' O A)) (dot' N (step' O B)) (dot' N (step' O C)))
    (difference
    (dot' N (record { x = mean A.x B.x C.x; y = mean A.y B.y C.y; z = mean A.z B.z C.z }))
    (product (sum (sum U V) W) (dot' N O))) tt

pub same_height : (n o a b c d e f : Point) (u v w x y z : ℕ) → u + v + w ≡ x + y + z
    → weighted a b c u v w ≡ weighted d e f x y z
    → weighted_sum (dot n (step o a)) (dot n (step o b)) (dot n (step o c)) u v w
    ≡ weighted_sum (dot n (step o d)) (dot n (step o e)) (dot n (step o f)) x y z
same_height n o a b c d e f u v w x y z total place =
    let all : pos u +ℤ pos v +ℤ pos w ≡ pos x +ℤ pos y +ℤ pos z = omega (arith, ints) in
    height_sum n o a b c u v w
    ∙ ap₂ (λ (g : Point) (t : ℤ). dot n g -ℤ t *ℤ dot n o) place all
    ∙ sym (height_sum n o d e f x y z)

-- heights written by what they have over m

over : (m : ℤ) (u v w a b c : ℕ)
    → weighted_sum (m +ℤ pos a) (m +ℤ pos b) (m +ℤ pos c) u v w
    ≡ (pos u +ℤ pos v +ℤ pos w) *ℤ m +ℤ (pos u *ℤ pos a +ℤ pos v *ℤ pos b +ℤ pos w *ℤ pos c)
over m u v w a b c =
    let x = λ (i : ℕ). variable i in
    let mean = λ (p q r : Polynomial). sum (sum (product (x 1) p) (product (x 2) q)) (product (x 3) r) in
    ring (m ∷ pos u ∷ pos v ∷ pos w ∷ pos a ∷ pos b ∷ pos c ∷ [])
    (mean (sum (x 0) (x 4)) (sum (x 0) (x 5)) (sum (x 0) (x 6)))
    (sum (product (sum (sum (x 1) (x 2)) (x 3)) (x 0)) (mean (x 4) (x 5) (x 6))) tt

under : (m : ℤ) (u v w a b c : ℕ)
    → weighted_sum (m -ℤ pos a) (m -ℤ pos b) (m -ℤ pos c) u v w
    ≡ (pos u +ℤ pos v +ℤ pos w) *ℤ m -ℤ (pos u *ℤ pos a +ℤ pos v *ℤ pos b +ℤ pos w *ℤ pos c)
under m u v w a b c =
    let x = λ (i : ℕ). variable i in
    let mean = λ (p q r : Polynomial). sum (sum (product (x 1) p) (product (x 2) q)) (product (x 3) r) in
    ring (m ∷ pos u ∷ pos v ∷ pos w ∷ pos a ∷ pos b ∷ pos c ∷ [])
    (mean (difference (x 0) (x 4)) (difference (x 0) (x 5)) (difference (x 0) (x 6)))
    (difference (product (sum (sum (x 1) (x 2)) (x 3)) (x 0)) (mean (x 4) (x 5) (x 6))) tt

opposed : (k l s t : ℤ) (a d : ℕ) → s ≡ k +ℤ pos a → t ≡ l -ℤ pos d → k ≡ l → s ≡ t → a + d ≡ 0
opposed k l s t a d e f g h = omega (arith, ints)

balance : (m : ℤ) (u v w x y z : ℕ) (a b c d e f : ℕ) → u + v + w ≡ x + y + z
    → weighted_sum (m +ℤ pos a) (m +ℤ pos b) (m +ℤ pos c) u v w ≡ weighted_sum (m -ℤ pos d) (m -ℤ pos e) (m -ℤ pos f) x y z
    → (u * a + v * b + w * c) + (x * d + y * e + z * f) ≡ 0
balance m u v w x y z a b c d e f total same =
    let all : pos u +ℤ pos v +ℤ pos w ≡ pos x +ℤ pos y +ℤ pos z = omega (arith, ints) in
    opposed _ _ _ _ (u * a + v * b + w * c) (x * d + y * e + z * f) (over m u v w a b c) (under m x y z d e f)
    (ap (λ (t : ℤ). t *ℤ m) all) same

-- a product is 0 where its factor is not
gone : (u a : ℕ) → u * a ≡ 0 → 0 < a → u ≡ 0
gone u zero e l = absurd (omega arith)
gone u (suc a) e l = omega arith

-- a number over m, and one under it
raised : (m a : ℤ) → m ≤ℤ a → a ≡ m +ℤ pos (unsigned_abs (a -ℤ m))
raised m a h = omega (arith, ints)

lowered : (m a : ℤ) → a ≤ℤ m → a ≡ m -ℤ pos (unsigned_abs (m -ℤ a))
lowered m a h = omega (arith, ints)

-- what is off m
off : (m a : ℤ) → m <ℤ a → 0 < unsigned_abs (a -ℤ m)
off m a h = omega (arith, ints)

-- a weighted sum of equal numbers
pub sums_with : (u v w : ℕ) {a b c p q r : ℤ} → a ≡ p → b ≡ q → c ≡ r → weighted_sum p q r u v w ≡ weighted_sum a b c u v w
sums_with u v w {a} {b} {c} {p} {q} {r} ea eb ec =
    ap (λ (t : ℤ). weighted_sum t q r u v w) (sym ea)
    ∙ (ap (λ (t : ℤ). weighted_sum a t r u v w) (sym eb) ∙ ap (λ (t : ℤ). weighted_sum a b t u v w) (sym ec))

-- each weight is 0 whose corner is off m
pub record Gone (m : ℤ) (a b c d e f : ℤ) (u v w x y z : ℕ) : Type 0 where
  pub a_gone : m <ℤ a → u ≡ 0
  pub b_gone : m <ℤ b → v ≡ 0
  pub c_gone : m <ℤ c → w ≡ 0
  pub d_gone : d <ℤ m → x ≡ 0
  pub e_gone : e <ℤ m → y ≡ 0
  pub f_gone : f <ℤ m → z ≡ 0

pub weights_gone : (m a b c d e f : ℤ) (u v w x y z : ℕ) → m ≤ℤ a → m ≤ℤ b → m ≤ℤ c → d ≤ℤ m → e ≤ℤ m → f ≤ℤ m
    → u + v + w ≡ x + y + z → weighted_sum a b c u v w ≡ weighted_sum d e f x y z → Gone m a b c d e f u v w x y z
weights_gone m a b c d e f u v w x y z ma mb mc dm em fm total same =
    let i = unsigned_abs (a -ℤ m) in
    let j = unsigned_abs (b -ℤ m) in
    let k = unsigned_abs (c -ℤ m) in
    let l = unsigned_abs (m -ℤ d) in
    let n = unsigned_abs (m -ℤ e) in
    let o = unsigned_abs (m -ℤ f) in
    let written : weighted_sum (m +ℤ pos i) (m +ℤ pos j) (m +ℤ pos k) u v w
    ≡ weighted_sum (m -ℤ pos l) (m -ℤ pos n) (m -ℤ pos o) x y z =
    sums_with u v w (raised m a ma) (raised m b mb) (raised m c mc)
    ∙ (same ∙ sym (sums_with x y z (lowered m d dm) (lowered m e em) (lowered m f fm))) in
    let none : (u * i + v * j + w * k) + (x * l + y * n + z * o) ≡ 0 = balance m u v w x y z i j k l n o total written in
    record {
      a_gone = λ h. gone u i (omega arith) (off m a h);
      b_gone = λ h. gone v j (omega arith) (off m b h);
      c_gone = λ h. gone w k (omega arith) (off m c h);
      d_gone = λ h. gone x l (omega arith) (off d m h);
      e_gone = λ h. gone y n (omega arith) (off e m h);
      f_gone = λ h. gone z o (omega arith) (off f m h);
    }
