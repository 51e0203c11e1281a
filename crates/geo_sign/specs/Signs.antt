-- Signs.
use Rattle.std.specs.Prelude.{ℤ, pos, negsuc, zero, suc}
use Rattle.geo_sign.specs.declared.sign.Sign.{Sign}
use Rattle.geo_sign.specs.declared.sign.Sign.TheVariants.{Neg, Zero, Pos}

-- the sign of a number
abbrev pub sign_of : ℤ → Sign
sign_of (pos zero) = Zero
sign_of (pos (suc n)) = Pos
sign_of (negsuc n) = Neg

-- the first of two signs that is not zero, and zero where both are
abbrev pub first_sign : Sign → Sign → Sign
first_sign Neg s = Neg
first_sign Zero s = s
first_sign Pos s = Pos

-- the sign of the opposite number
abbrev pub opposite_sign : Sign → Sign
opposite_sign Neg = Pos
opposite_sign Zero = Zero
opposite_sign Pos = Neg
