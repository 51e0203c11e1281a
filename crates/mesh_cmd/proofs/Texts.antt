-- Texts after one another.
use Rattle.std.proofs.Common.{◌≡◌, ◌++◌, List, ℕ, append_assoc, ap, ◌∙◌}

two_after : (a b c x y : List ℕ) → b ≡ a ++ x → c ≡ b ++ y → c ≡ a ++ (x ++ y)
two_after a b c x y e f = f ∙ (ap (λ (t : List ℕ). t ++ y) e ∙ append_assoc a x y)

pub three_after : (a b c d x y z : List ℕ) → b ≡ a ++ x → c ≡ b ++ y → d ≡ c ++ z → d ≡ a ++ (x ++ (y ++ z))
three_after a b c d x y z e f g = two_after a b d x (y ++ z) e (two_after b c d y z f g)

pub four_after : (a b c d e w x y z : List ℕ) → b ≡ a ++ w → c ≡ b ++ x → d ≡ c ++ y → e ≡ d ++ z
    → e ≡ a ++ (w ++ (x ++ (y ++ z)))
four_after a b c d e w x y z f g h i = two_after a b e w (x ++ (y ++ z)) f (three_after b c d e x y z g h i)

pub five_after : (a b c d e f v w x y z : List ℕ) → b ≡ a ++ v → c ≡ b ++ w → d ≡ c ++ x → e ≡ d ++ y → f ≡ e ++ z
    → f ≡ a ++ (v ++ (w ++ (x ++ (y ++ z))))
five_after a b c d e f v w x y z g h i j k =
    two_after a b f v (w ++ (x ++ (y ++ z))) g (four_after b c d e f w x y z h i j k)
