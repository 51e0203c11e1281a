-- Lists of four.
use Rattle.std.proofs.Common.{List, [], ◌∷◌, length, get_or, ◌≡◌, refl, arith}

-- a list of four is its elements
pub four_of : {X : Type 0} (d : X) (xs : List X) → length xs ≡ 4
    → get_or xs 0 d ∷ get_or xs 1 d ∷ get_or xs 2 d ∷ get_or xs 3 d ∷ [] ≡ xs
four_of d [] h = absurd (omega arith)
four_of d (a ∷ []) h = absurd (omega arith)
four_of d (a ∷ b ∷ []) h = absurd (omega arith)
four_of d (a ∷ b ∷ c ∷ []) h = absurd (omega arith)
four_of d (a ∷ b ∷ c ∷ e ∷ []) h = refl
four_of d (a ∷ b ∷ c ∷ e ∷ f ∷ xs) h = absurd (omega arith)
