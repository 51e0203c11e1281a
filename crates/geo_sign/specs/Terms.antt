-- Terms of a sum of powers of a large base, by their exponents and the signs of their coefficients.
--
--   Term                       an exponent, and the sign of a coefficient
--   leading_term leader t      the one that gives a sum of both its sign, where the leader is not zero
--   term i coefficient         the term with exponent i
--   deciding_term a b c d p    the term that decides whether p is in conflict with the cell a b c d where the plain power
--                              is zero
--   is_below_zero s            whether a sign is Neg
use Rattle.std.specs.Prelude.{ℕ, ℤ, cond, nat_lt, Bool, true, false}
use Rattle.geo_sign.specs.Point.{Point}
use Rattle.geo_sign.specs.Orientation.{orientation}
use Rattle.geo_sign.specs.Signs.{sign_of}
use Rattle.geo_sign.specs.declared.sign.Sign.{Sign}
use Rattle.geo_sign.specs.declared.sign.Sign.TheVariants.{Neg, Zero, Pos}

-- a power of the base by its exponent, a vertex number, with the sign of its coefficient
pub record Term : Type 0 where
  pub number : ℕ
  pub sign : Sign

-- of two terms, the first (the *leader*), or the second if its sign is not zero and its number (exponent) is greater
abbrev pub leading_of : Sign → Term → Term → Term
leading_of Neg leader t = cond (nat_lt leader.number t.number) t leader
leading_of Zero leader t = leader
leading_of Pos leader t = cond (nat_lt leader.number t.number) t leader

-- the leading one of the two
abbrev pub leading_term : Term → Term → Term
leading_term leader t = leading_of t.sign leader t

-- whether the number is below zero
abbrev pub is_below_zero : Sign → Bool
is_below_zero Neg = true
is_below_zero Zero = false
is_below_zero Pos = false

-- a number and the sign of a coefficient
abbrev pub term : ℕ → ℤ → Term
term i coefficient = record { number = i; sign = sign_of coefficient }

-- the term that decides a tie, where the orientation of the cell, p's own coefficient, is positive
abbrev pub deciding_term : (a b c d p : ℕ × Point) → Term
deciding_term a b c d p =
    let own : Term = record { number = p.0; sign = Pos } in
    let with_d = leading_term own (term d.0 (orientation a.1 b.1 p.1 c.1)) in
    let with_c = leading_term with_d (term c.0 (orientation a.1 p.1 b.1 d.1)) in
    let with_b = leading_term with_c (term b.0 (orientation p.1 a.1 c.1 d.1)) in
    leading_term with_b (term a.0 (orientation b.1 p.1 c.1 d.1))
