-- The sign of a number that is written in a large base.
use Rattle.std.proofs.Common.{zero, suc, ◌+◌, ◌*◌, ◌<◌, ◌≤◌, ◌^◌, ◌≡◌, refl, ap, sym, ◌∙◌, ℕ, ℤ, pos, negsuc, neg_ℤ, ◌+ℤ◌, ◌*ℤ◌}
use Rattle.std.proofs.Common.{◌<ℤ◌, unsigned_abs, arith, mul-suc, lit≤, ltb→lt, lt_of_le_of_lt, subst, [], ◌∷◌}
use Rattle.std.proofs.lemmas.Int.{ints}
use lib.IntN.{*ℤ-zero, +ℤ_idl}
use Rattle.geo_sign.specs.Polynomial.{Polynomial, variable, constant, sum, product}
use Rattle.geo_sign.proofs.Ring.{ring}
use Rattle.geo_sign.specs.declared.sign.Sign.TheVariants.{Neg, Pos}
use Rattle.geo_sign.specs.Signs.{sign_of, first_sign}
use Rattle.geo_sign.specs.Point.{Point, point, IsWithin, cross, dot, step}
use Rattle.geo_sign.specs.Orientation.{IsOnLine}
use Rattle.geo_sign.specs.Rational.{side, displaced}
use Rattle.geo_sign.proofs.Bounds.{abs_add, abs_mul}
use Rattle.geo_sign.proofs.Identities.{side_digits}

pub sign_above : (z : ℤ) → pos 0 <ℤ z → sign_of z ≡ Pos
sign_above (pos zero) h = absurd (omega (arith, ints))
sign_above (pos (suc n)) h = refl
sign_above (negsuc n) h = absurd (omega (arith, ints))

pub sign_below : (z : ℤ) → z <ℤ pos 0 → sign_of z ≡ Neg
sign_below (pos n) h = absurd (omega (arith, ints))
sign_below (negsuc n) h = refl

-- the leading digit that is not zero decides
pub leading_digit : (k : ℕ) (a b : ℤ) → unsigned_abs b < k → sign_of (pos k *ℤ a +ℤ b) ≡ first_sign (sign_of a) (sign_of b)
leading_digit k (pos zero) b h = ap (λ y. sign_of (y +ℤ b)) (*ℤ-zero (pos k)) ∙ ap sign_of (+ℤ_idl b)
leading_digit k (pos (suc n)) b h = sign_above (pos (k * suc n) +ℤ b) (omega (arith, ints, mul-suc k n))
leading_digit k (negsuc n) b h = sign_below (neg_ℤ (pos (k * suc n)) +ℤ b) (omega (arith, ints, mul-suc k n))

-- four digits in base 2 ^ 64
four_digits : (o x y z : ℤ) → unsigned_abs x ≤ 2 ^ 49 → unsigned_abs y ≤ 2 ^ 49 → unsigned_abs z ≤ 2 ^ 49
    → sign_of (pos (2 ^ 192) *ℤ o +ℤ pos (2 ^ 128) *ℤ x +ℤ pos (2 ^ 64) *ℤ y +ℤ z)
    ≡ first_sign (first_sign (first_sign (sign_of o) (sign_of x)) (sign_of y)) (sign_of z)
four_digits o x y z h k l =
    let K = 2 ^ 64 in
    let times = λ (n : ℕ) (e : Polynomial). product (constant (pos n)) e in
    let e : pos (2 ^ 192) *ℤ o +ℤ pos (2 ^ 128) *ℤ x +ℤ pos (2 ^ 64) *ℤ y +ℤ z
    ≡ pos K *ℤ (pos K *ℤ (pos K *ℤ o +ℤ x) +ℤ y) +ℤ z =
    ring (o ∷ x ∷ y ∷ z ∷ [])
    (sum (sum (sum (times (2 ^ 192) (variable 0)) (times (2 ^ 128) (variable 1))) (times (2 ^ 64) (variable 2))) (variable 3))
    (sum (times K (sum (times K (sum (times K (variable 0)) (variable 1))) (variable 2))) (variable 3)) tt in
    ap sign_of e ∙ leading_digit K (pos K *ℤ (pos K *ℤ o +ℤ x) +ℤ y) z (omega arith)
    ∙ ap (λ s. first_sign s (sign_of z))
    (leading_digit K (pos K *ℤ o +ℤ x) y (omega arith) ∙ ap (λ s. first_sign s (sign_of y)) (leading_digit K o x (omega arith)))

-- the digits of a displaced scanner's side
side_is : (a b c s : Point) → let n = cross (step a b) (step a c) in
    pos (2 ^ 192) *ℤ dot n (step a s) +ℤ pos (2 ^ 128) *ℤ n.x +ℤ pos (2 ^ 64) *ℤ n.y +ℤ n.z ≡ side a b c (displaced s)
unfolding side
side_is a b c s = side_digits (cross (step a b) (step a c)) a s

-- the signs of the four digits, and the side that they spell
pub scanner_signs : (a b c s : Point) (n : Point) (o : ℤ) → n ≡ cross (step a b) (step a c) → o ≡ dot n (step a s)
    → IsWithin (2 ^ 49) n
    → first_sign (first_sign (first_sign (sign_of o) (sign_of n.x)) (sign_of n.y)) (sign_of n.z)
    ≡ sign_of (side a b c (displaced s))
scanner_signs a b c s n o e f w =
    sym (four_digits o n.x n.y n.z w.x_within w.y_within w.z_within)
    ∙ ap (λ (v : ℤ). sign_of (pos (2 ^ 192) *ℤ v +ℤ pos (2 ^ 128) *ℤ n.x +ℤ pos (2 ^ 64) *ℤ n.y +ℤ n.z)) f
    ∙ ap (λ (m : Point). sign_of (pos (2 ^ 192) *ℤ dot m (step a s) +ℤ pos (2 ^ 128) *ℤ m.x +ℤ pos (2 ^ 64) *ℤ m.y +ℤ m.z)) e
    ∙ ap sign_of (side_is a b c s)

-- and how large it is
pub side_bound : (a b c s : Point) (n : Point) (o : ℤ) → n ≡ cross (step a b) (step a c) → o ≡ dot n (step a s)
    → IsWithin (2 ^ 49) n → unsigned_abs o ≤ 3 * 2 ^ 73 → unsigned_abs (side a b c (displaced s)) < 2 ^ 270
side_bound a b c s n o e f w h =
    let K3 : ℤ = pos (2 ^ 192) in let K2 : ℤ = pos (2 ^ 128) in let K1 : ℤ = pos (2 ^ 64) in
    let x = w.x_within in let y = w.y_within in let z = w.z_within in
    let g : K3 *ℤ o +ℤ K2 *ℤ n.x +ℤ K1 *ℤ n.y +ℤ n.z ≡ side a b c (displaced s) =
    ap (λ (v : ℤ). pos (2 ^ 192) *ℤ v +ℤ pos (2 ^ 128) *ℤ n.x +ℤ pos (2 ^ 64) *ℤ n.y +ℤ n.z) f
    ∙ ap (λ (m : Point). pos (2 ^ 192) *ℤ dot m (step a s) +ℤ pos (2 ^ 128) *ℤ m.x +ℤ pos (2 ^ 64) *ℤ m.y +ℤ m.z) e
    ∙ side_is a b c s in
    subst (λ (v : ℤ). unsigned_abs v < 2 ^ 270) g
    (lt_of_le_of_lt
    (abs_add (K3 *ℤ o +ℤ K2 *ℤ n.x +ℤ K1 *ℤ n.y) n.z (2 ^ 269) (2 ^ 49)
    (abs_add (K3 *ℤ o +ℤ K2 *ℤ n.x) (K1 *ℤ n.y) (2 ^ 268) (2 ^ 268)
    (abs_add (K3 *ℤ o) (K2 *ℤ n.x) (2 ^ 267) (2 ^ 267)
    (let p = abs_mul K3 o (2 ^ 192) (3 * 2 ^ 73) (lit≤ tt) h in omega (arith, p))
    (let p = abs_mul K2 n.x (2 ^ 128) (2 ^ 49) (lit≤ tt) x in omega (arith, p)))
    (let p = abs_mul K1 n.y (2 ^ 64) (2 ^ 49) (lit≤ tt) y in omega (arith, p)))
    z)
    (ltb→lt (2 ^ 269 + 2 ^ 49) (2 ^ 270) tt))

-- the digits of zero are zero
no_digits : (o x y z : ℤ) → unsigned_abs x ≤ 2 ^ 49 → unsigned_abs y ≤ 2 ^ 49 → unsigned_abs z ≤ 2 ^ 49 →
    pos (2 ^ 192) *ℤ o +ℤ pos (2 ^ 128) *ℤ x +ℤ pos (2 ^ 64) *ℤ y +ℤ z ≡ pos 0 → point x y z ≡ point (pos 0) (pos 0) (pos 0)
no_digits o x y z h k l e =
    let first : x ≡ pos 0 = omega (arith, ints) in
    let second : y ≡ pos 0 = omega (arith, ints) in
    let third : z ≡ pos 0 = omega (arith, ints) in
    ap (λ v. point v y z) first ∙ ap (λ v. point (pos 0) v z) second ∙ ap (λ v. point (pos 0) (pos 0) v) third

-- where it is zero the three places are on one line
pub side_on_line : (a b c s : Point) (n : Point) → n ≡ cross (step a b) (step a c) → IsWithin (2 ^ 49) n
    → side a b c (displaced s) ≡ pos 0 → IsOnLine a b c
side_on_line a b c s n e w level =
    sym e
    ∙ no_digits (dot n (step a s)) n.x n.y n.z w.x_within w.y_within w.z_within
    (ap (λ (m : Point). pos (2 ^ 192) *ℤ dot m (step a s) +ℤ pos (2 ^ 128) *ℤ m.x +ℤ pos (2 ^ 64) *ℤ m.y +ℤ m.z) e
    ∙ side_is a b c s ∙ level)
