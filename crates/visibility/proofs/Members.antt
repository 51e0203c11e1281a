-- Functions that are equal on the members of a list: the same maps, sums and first indices.
use Rattle.std.proofs.Common.{ℕ, ◌≡◌, refl, List, [], ◌∷◌, Contains, arith}
use Rattle.std.specs.List.{sum_by}
use Rattle.std.proofs.lemmas.List.Sums.{sum_by-cons}
use Rattle.geo_sign.proofs.Members.{here, there}

pub same_sum : {X : Type 0} (f g : X → ℕ) (xs : List X) → ((x : X) → Contains xs x → f x ≡ g x) → sum_by f xs ≡ sum_by g xs
same_sum f g [] h = refl
same_sum f g (x ∷ xs) h =
    grind (arith, sum_by-cons, here, there, same_sum f g xs (λ y c. h y (there x y xs c)), h x (here x xs))
