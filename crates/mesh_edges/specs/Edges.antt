-- The directed edges of faces, and how often each occurs.
--
--   face_at faces f        face number f
--   is_edge u v a b        whether the edge from u to v is that from a to b
--   has_edge u v face      whether the edge from u to v is one of the face's three, each from one of its vertices to the next
--   faces_with_edge u v faces   how many faces have the edge from u to v
--   IsBalanced faces       each directed edge occurs as often as its reverse
--   ComesFirst a b u v     the pair of numbers a, b is before u, v
--   IsFirstUnbalanced faces from to m n   the smallest pair whose two counts differ, with both counts
use Rattle.std.specs.Prelude.{ℕ, ◌≡◌, ◌≢◌, ◌<◌, ◌==◌, ◌&&◌, ◌||◌, ◌⊎◌, Bool, false, List, [], ◌∷◌, count_by, slice_index_or}

-- face number f
abbrev pub face_at : List (List ℕ) → ℕ → List ℕ
face_at faces f = slice_index_or faces f []

-- whether the edge from u to v is that from a to b
abbrev pub is_edge : (u v a b : ℕ) → Bool
is_edge u v a b = (u == a) && (v == b)

-- whether the edge from u to v is one of the face's three
abbrev pub has_edge : (u v : ℕ) → List ℕ → Bool
has_edge u v (a ∷ b ∷ c ∷ []) = is_edge u v a b || (is_edge u v b c || is_edge u v c a)
has_edge u v _ = false

-- how many faces have the edge from u to v
abbrev pub faces_with_edge : (u v : ℕ) → List (List ℕ) → ℕ
faces_with_edge u v faces = count_by (has_edge u v) faces

-- each directed edge occurs as often as its reverse
abbrev pub IsBalanced : List (List ℕ) → Type 0
IsBalanced faces = (u v : ℕ) → faces_with_edge u v faces ≡ faces_with_edge v u faces

-- the pair a, b is before u, v
abbrev pub ComesFirst : (a b u v : ℕ) → Type 0
ComesFirst a b u v = (a < u) ⊎ ((a ≡ u) × (b < v))

-- The two counts of this pair differ, and those of each pair before it do not. So the first number is below the second.
pub record IsFirstUnbalanced (faces : List (List ℕ)) (from to m n : ℕ) : Type 0 where
  pub rising : from < to
  pub there : m ≡ faces_with_edge from to faces
  pub back : n ≡ faces_with_edge to from faces
  pub differ : m ≢ n
  pub smallest : (a b : ℕ) → ComesFirst a b from to → faces_with_edge a b faces ≡ faces_with_edge b a faces
