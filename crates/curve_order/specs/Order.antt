-- Permutations of the numbers below n.
--
--   IsOrder n order         each number below n occurs in the list once
--   IsByKey key n order     keys do not decrease along the list, and numbers with equal keys ascend; this determines the order
use Rattle.std.specs.Prelude.{ℕ, ◌≡◌, ◌<◌, ◌≤◌, List, length, slice_index}

-- each number below n, once
pub record IsOrder (n : ℕ) (order : List ℕ) : Type 0 where
  pub count : length order ≡ n
  pub below : (k : ℕ) → k < n → slice_index order k < n
  pub once : (j k : ℕ) → j < n → k < n → slice_index order j ≡ slice_index order k → j ≡ k
  pub all : (i : ℕ) → i < n → (k : ℕ) × (k < n) × (slice_index order k ≡ i)

-- by ascending key, and those with equal keys by ascending number
pub record IsByKey (key : ℕ → ℕ) (n : ℕ) (order : List ℕ) : Type 0 where
  pub keys : (j k : ℕ) → j < k → k < n → key (slice_index order j) ≤ key (slice_index order k)
  pub ties : (j k : ℕ) → j < k → k < n → key (slice_index order j) ≡ key (slice_index order k)
      → slice_index order j < slice_index order k
