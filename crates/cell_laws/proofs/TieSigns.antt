-- The power of a fifth vertex is settled: the base decides its sign by the plain power and, where that is zero, by the term
-- with the greatest number, and neither knows the exponent. So at any two exponents both powers are below zero, or both
-- above it.
-- Stands on: geo_sign's law of ties, Heights (the power by numbered points) and Box (vertices are points of the box).
use Rattle.std.proofs.Common.{ℕ, ◌≡◌, ◌≢◌, refl, sym, ◌∙◌, inl, inr, arith, Bool, true, false, IsTrue, IsFalse, ◌↔◌, ℤ, pos}
use Rattle.std.proofs.Common.{◌<ℤ◌}
use Rattle.std.proofs.lemmas.Int.{ints}
use Rattle.geo_sign.specs.Conflict.{AreApart, AreBelow}
use Rattle.geo_sign.specs.Power.{plain_power}
use Rattle.geo_sign.specs.Signs.{first_sign, sign_of}
use Rattle.geo_sign.specs.Terms.{deciding_term, is_below_zero}
use Rattle.geo_sign.specs.Vertices.{power_of}
use Rattle.geo_sign.proofs.Digits.{sign_above, sign_below}
use Rattle.geo_sign.proofs.Ties.{decided, five_kept}
use Rattle.cell_laws.specs.TieLaws.{TieLaw, power_among}
use Rattle.geo_sign.proofs.CellRows.{distinct}
use Rattle.cell_laws.proofs.Box.{vertex_within}
use Rattle.geo_sign.proofs.CornerCells.{power_tied, tied}

-- both are below zero where the bit is set, and both above it where it is not
same_signs :
    (b : Bool) (x y : ℤ) → (IsTrue b ↔ (x <ℤ pos 0)) × (IsFalse b ↔ (pos 0 <ℤ x)) →
    (IsTrue b ↔ (y <ℤ pos 0)) × (IsFalse b ↔ (pos 0 <ℤ y)) → sign_of x ≡ sign_of y
same_signs true x y h k = sign_below x (h.0.0 refl) ∙ sym (sign_below y (k.0.0 refl))
same_signs false x y h k = sign_above x (h.1.0 refl) ∙ sym (sign_above y (k.1.0 refl))

nowhere_zero : (b : Bool) (x : ℤ) → (IsTrue b ↔ (x <ℤ pos 0)) × (IsFalse b ↔ (pos 0 <ℤ x)) → x ≢ pos 0
nowhere_zero true x h e = let l = h.0.0 refl in absurd (omega (arith, ints, e, l))
nowhere_zero false x h e = let l = h.1.0 refl in absurd (omega (arith, ints, e, l))

pub tie_law : TieLaw
tie_law v x t u h = record {
  not_zero = λ e. nowhere_zero bit (power_among v.count v t u) own (sym (power_tied v x.tied t.a t.b t.c t.d u) ∙ e);
  same_sign = λ n i j k l m.
      same_signs bit (power_among n v t u) (power_of v t.a t.b t.c t.d u)
      (all n (record { a_below = i; b_below = j; c_below = k; d_below = l; p_below = m }))
      (let e = power_tied v x.tied t.a t.b t.c t.d u in
      let a = own.0.0 in let b = own.0.1 in let c = own.1.0 in let d = own.1.1 in (
        (λ y. (let z = a y in omega (arith, ints, e, z)), λ y. b (omega (arith, ints, e, y))),
        (λ y. (let z = c y in omega (arith, ints, e, z)), λ y. d (omega (arith, ints, e, y))),
      ));
}
  where
    bit : Bool
    bit =
        is_below_zero
        (first_sign (sign_of (plain_power (v.at t.a) (v.at t.b) (v.at t.c) (v.at t.d) (v.at u)))
        (deciding_term (tied v t.a) (tied v t.b) (tied v t.c) (tied v t.d) (tied v u)).sign)

    apart : AreApart (tied v t.a) (tied v t.b) (tied v t.c) (tied v t.d) (tied v u)
    apart =
        let n = distinct v t h.positive in
        record {
          a_b = λ e. n.b_a (sym e);
          a_c = λ e. n.c_a (sym e);
          a_d = λ e. n.d_a (sym e);
          a_p = λ e. h.other (inl (sym e));
          b_c = λ e. n.c_b (sym e);
          b_d = λ e. n.d_b (sym e);
          b_p = λ e. h.other (inr (inl (sym e)));
          c_d = λ e. n.d_c (sym e);
          c_p = λ e. h.other (inr (inr (inl (sym e))));
          d_p = λ e. h.other (inr (inr (inr (sym e))));
        }

    all :
        (n : ℕ) → AreBelow n (tied v t.a) (tied v t.b) (tied v t.c) (tied v t.d) (tied v u) →
        (IsTrue bit ↔ (power_among n v t u <ℤ pos 0)) × (IsFalse bit ↔ (pos 0 <ℤ power_among n v t u))
    all n below =
        decided (tied v t.a) (tied v t.b) (tied v t.c) (tied v t.d) (tied v u) bit apart
        (five_kept (v.at t.a) (v.at t.b) (v.at t.c) (v.at t.d) (v.at u) (
          vertex_within v x t.a h.a_below,
          vertex_within v x t.b h.b_below,
          vertex_within v x t.c h.c_below,
          vertex_within v x t.d h.d_below,
          vertex_within v x u h.below,
        ))
        h.positive refl n below

    own : (IsTrue bit ↔ (power_among v.count v t u <ℤ pos 0)) × (IsFalse bit ↔ (pos 0 <ℤ power_among v.count v t u))
    own =
        all v.count
        (record { a_below = h.a_below; b_below = h.b_below; c_below = h.c_below; d_below = h.d_below; p_below = h.below })
