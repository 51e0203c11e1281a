-- A face as its corners are written.
--
--   cycled f          the face f, its second corner first
--   IsCycled f g      f and g are one face: g is f, or f cycled once, or twice
--   IsTriangle n f    three distinct numbers below n
use Rattle.std.specs.Prelude.{ℕ, ◌≡◌, ◌≢◌, ◌<◌, ◌⊎◌, List, [], ◌∷◌}

-- the second corner first
abbrev pub cycled : List ℕ → List ℕ
cycled (a ∷ b ∷ c ∷ []) = b ∷ c ∷ a ∷ []
cycled f = f

-- the corners stand in the same order around
abbrev pub IsCycled : (f g : List ℕ) → Type 0
IsCycled f g = (g ≡ f) ⊎ ((g ≡ cycled f) ⊎ (g ≡ cycled (cycled f)))

-- three distinct numbers below n
abbrev pub IsTriangle : ℕ → List ℕ → Type 0
IsTriangle n (a ∷ b ∷ c ∷ []) = (a ≢ b) × (b ≢ c) × (c ≢ a) × (a < n) × (b < n) × (c < n)
IsTriangle n _ = ⊥
