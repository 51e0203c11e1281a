-- The first number with a property.
--
--   IsFirst n P k     the smallest number below n with the property is k
--   NoneBelow n P     no number below n has the property
use Rattle.std.specs.Prelude.{ℕ, ◌<◌}

-- the smallest number below n with the property is k
pub record IsFirst (n : ℕ) (P : ℕ → Type 0) (k : ℕ) : Type 0 where
  pub in_range : k < n
  pub has : P k
  pub none_before : (i : ℕ) → i < k → ¬ P i

-- no number below n has the property
abbrev pub NoneBelow : ℕ → (ℕ → Type 0) → Type 0
NoneBelow n P = (i : ℕ) → i < n → ¬ P i
