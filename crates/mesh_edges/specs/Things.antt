-- How many things there are.
--
--   AreSoMany P n     there are exactly n things with P
use Rattle.std.specs.Prelude.{ℕ, ◌≡◌, ◌≢◌, List, length, All, AllPairs, Contains}

-- They are a list of n, each once.
pub record AreSoMany {A : Type 0} (P : A → Type 0) (n : ℕ) : Type 0 where
  pub things : List A
  pub number : length things ≡ n
  pub distinct : AllPairs (λ a b. a ≢ b) things
  pub each : All P things
  pub every : (a : A) → P a → Contains things a
