-- Where two texts differ.
--
--   IsFirstDifference xs ys place    the first position at which two texts differ; a text that has ended differs from
--                                    one that has not
use Rattle.std.specs.Prelude.{ℕ, ◌≡◌, ◌≢◌, ◌<◌, List, slice_get}

-- the first position at which two texts differ, where a text that has ended has nothing
pub record IsFirstDifference (xs ys : List ℕ) (place : ℕ) : Type 0 where
  pub differs : slice_get xs place ≢ slice_get ys place
  pub same_before : (i : ℕ) → i < place → slice_get xs i ≡ slice_get ys i
