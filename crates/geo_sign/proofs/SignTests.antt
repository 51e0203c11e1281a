-- What a sign that was read says of its number, and what the two tests of a sign say.
use Rattle.std.proofs.Common.{zero, suc, ◌≡◌, refl, arith, true, ℤ, pos, negsuc, ◌<ℤ◌, int_lt}
use Rattle.std.proofs.lemmas.Int.{ints}
use Rattle.geo_sign.specs.declared.sign.Sign.TheVariants.{Neg, Zero, Pos}
use Rattle.geo_sign.specs.Signs.{sign_of}

pub positive_of : (z : ℤ) → Pos ≡ sign_of z → pos 0 <ℤ z
positive_of (pos zero) e = absurd (cc)
positive_of (pos (suc n)) e = omega (arith, ints)
positive_of (negsuc n) e = absurd (cc)

pub negative_of : (z : ℤ) → Neg ≡ sign_of z → z <ℤ pos 0
negative_of (pos zero) e = absurd (cc)
negative_of (pos (suc n)) e = absurd (cc)
negative_of (negsuc n) e = omega (arith, ints)

pub zero_of : (z : ℤ) → Zero ≡ sign_of z → z ≡ pos 0
zero_of (pos zero) e = refl
zero_of (pos (suc n)) e = absurd (cc)
zero_of (negsuc n) e = absurd (cc)

-- ---- the tests against zero
pub above_true : (z : ℤ) → int_lt (pos 0) z ≡ true → pos 0 <ℤ z
above_true z h = grind (arith, ints)

pub above_is : (z : ℤ) → pos 0 <ℤ z → int_lt (pos 0) z ≡ true
above_is z h = grind (arith, ints)

pub below_true : (z : ℤ) → int_lt z (pos 0) ≡ true → z <ℤ pos 0
below_true z h = grind (arith, ints)

pub below_is : (z : ℤ) → z <ℤ pos 0 → int_lt z (pos 0) ≡ true
below_is z h = grind (arith, ints)
