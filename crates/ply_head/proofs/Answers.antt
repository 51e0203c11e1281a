-- What is known of a call that answered with a value.
use Rattle.std.proofs.Common.{◌≡◌, Bool, true, false, cond, Result, Ok, Err, refl}
use Rattle.ply_head.specs.Answers.{◌>>=◌}

module _ {A E : Type 0} where
  abbrev pub done : A → Result A E
  done x = Ok x

  pub same_done : (x y : A) → done x ≡ done y → x ≡ y
  same_done x y e = cc

  -- both calls answered with a value
  pub bind_ok : {B : Type 0} (r : Result B E) (f : B → Result A E) (y : A) → (r >>= f) ≡ Ok y
      → (x : B) × (r ≡ Ok x) × (f x ≡ Ok y)
  bind_ok (Ok x) f y e = (x, refl, e)
  bind_ok (Err d) f y e = absurd cc

  -- the test that refuses failed
  pub guarded : (b : Bool) (d : E) (r : Result A E) (y : A) → cond b (Err d) r ≡ Ok y → (b ≡ false) × (r ≡ Ok y)
  guarded true d r y e = absurd cc
  guarded false d r y e = (refl, e)
