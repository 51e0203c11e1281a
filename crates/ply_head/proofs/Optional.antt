-- What is known of a value that is there.
use Rattle.std.proofs.Common.{◌≡◌, Option, None, Some, refl}
use Rattle.ply_head.specs.Optional.{◌>>=◌}

-- both values are there
pub bind_some : {A B : Type 0} (o : Option A) (f : A → Option B) (y : B) → (o >>= f) ≡ Some y
    → (x : A) × (o ≡ Some x) × (f x ≡ Some y)
bind_some (Some x) f y e = (x, refl, e)
bind_some None f y e = absurd cc
