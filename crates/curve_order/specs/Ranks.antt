-- Points with their ranks, by which they are sorted.
--
--   rank_of key number         by key, and points with equal keys by their numbers
--   rank_in points i           the rank of point i of a list
--   the_rank, the_number       the two parts of an entry
--   AreRanked points list n    the first n points, each with its rank
use Rattle.std.specs.Prelude.{ℕ, ◌≡◌, ◌<◌, ◌+◌, ◌*◌, List, length, map, slice_index, All}
use Rattle.geo_sign.specs.Point.{Point}
use Rattle.curve_order.specs.declared.sorting.Ranked.{Ranked}
use Rattle.curve_order.specs.Curve.{key_in}

-- the key, and below it 32 bits of the number
abbrev pub rank_of : (key number : ℕ) → ℕ
rank_of key number = key * 4294967296 + number

-- the rank of a point of a list by its number
abbrev pub rank_in : List Point → ℕ → ℕ
rank_in points i = rank_of (key_in points i) i

-- the rank of an entry
abbrev pub the_rank : Ranked → ℕ
the_rank r = r.rank

-- its number
abbrev pub the_number : Ranked → ℕ
the_number r = r.number

-- the first n points, each with its rank
pub record AreRanked (points : List Point) (list : List Ranked) (n : ℕ) : Type 0 where
  pub count : length list ≡ n
  pub numbers : (k : ℕ) → k < n → slice_index (map the_number list) k ≡ k
  pub ranks : All (λ r. r.rank ≡ rank_in points r.number) list
