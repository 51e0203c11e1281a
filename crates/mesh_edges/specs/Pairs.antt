-- Pairs of vertices in the order of a number, and the lists in which the edges of faces are counted.
--
--   key_of first second, key_of_pair p   the number by which pairs of 32-bit numbers are in order: 2^32 times the first
--                                        plus the second; this number of a pair
--   key_count k pairs                    how often the pair with the number k (`key_of`) is in the list
--   HasGained hits pairs more            each pair u, v with u < v is in the list `more` as often as in `pairs`, and
--                                        once more if the test `hits` holds for u and v
--   IsPairOf faces there back            each pair u, v with u < v is in the list `there` as often as faces have the
--                                        edge from u to v, and in `back` as often as they have the edge from v to u
--   AreRising pairs                      in each pair of the list the first number is the smaller one
--   IsFirstUnequalPair there back p      p is the smallest pair that the two lists do not have equally often
use Rattle.std.specs.Prelude.{ℕ, ◌≡◌, ◌≢◌, ◌+◌, ◌*◌, ◌<◌, ◌^◌, ◌==◌, Bool, List, count_by, All, if◌then◌else◌}
use Rattle.mesh_edges.specs.Edges.{faces_with_edge}
use Rattle.mesh_edges.specs.declared.pairs.Pair.{Pair}

-- above the number of each pair before
abbrev pub key_of : (first second : ℕ) → ℕ
key_of first second = first * 4294967296 + second

abbrev pub key_of_pair : Pair → ℕ
key_of_pair p = key_of p.first p.second

abbrev pub key_count : ℕ → List Pair → ℕ
key_count k pairs = count_by (λ p. key_of_pair p == k) pairs

-- each pair u, v once more where the test gives true
abbrev pub HasGained : (hits : (u v : ℕ) → Bool) → (pairs more : List Pair) → Type 0
HasGained hits pairs more =
    (u v : ℕ) → u < v → v < 2 ^ 32 → key_count (key_of u v) more ≡ key_count (key_of u v) pairs + (if hits u v then 1 else 0)

-- each pair u, v as often as faces have the edge from u to v, and as often as they have that back
pub record IsPairOf (faces : List (List ℕ)) (there back : List Pair) : Type 0 where
  pub there_count : (u v : ℕ) → u < v → v < 2 ^ 32 → key_count (key_of u v) there ≡ faces_with_edge u v faces
  pub back_count : (u v : ℕ) → u < v → v < 2 ^ 32 → key_count (key_of u v) back ≡ faces_with_edge v u faces

-- the smaller number first
abbrev pub AreRising : List Pair → Type 0
AreRising pairs = All (λ p. p.first < p.second) pairs

-- the two lists have this pair unequally often, and each before it equally often
pub record IsFirstUnequalPair (there back : List Pair) (p : Pair) : Type 0 where
  pub differ : key_count (key_of_pair p) there ≢ key_count (key_of_pair p) back
  pub same : (k : ℕ) → k < key_of_pair p → key_count k there ≡ key_count k back
