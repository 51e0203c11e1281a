-- The cells: Delaunay tetrahedra by the empty-sphere definition under symbolic perturbation.
--
--   IsCell v a b c d               four inserted vertices, positively oriented; no inserted vertex has a negative power
--                                  at them
--   FormCell vertices a b c d      the four are a cell, in this order or with the last two exchanged
--   IsCellList vertices rows       the list of all cells, numbers ascending in each, the cells ascending
--   written v row                  the four ascending numbers of a cell, in an order in which it is positively
--                                  oriented: ascending, or with the last two exchanged
use Rattle.std.specs.Prelude.{ℕ, ◌<◌, ◌⊎◌, pos, ◌<ℤ◌, ◌≤ℤ◌, int_lt, List, [], ◌∷◌, slice_index, AllPairs, Contains}
use Rattle.std.specs.Prelude.{if◌then◌else◌}
use Rattle.geo_sign.specs.Rising.{IsBefore}
use Rattle.geo_sign.specs.Tetrahedron.{Tetrahedron, tetrahedron}
use Rattle.geo_sign.specs.Vertices.{Vertices, Has, orientation_of, power_of}

-- Four vertices are a positively oriented Delaunay tetrahedron: no vertex is inside their circumscribed sphere, with
-- ties resolved by the heights. The powers of the four themselves are zero.
pub record IsCell (v : Vertices) (a b c d : ℕ) : Type 0 where
  pub has_a : Has v a
  pub has_b : Has v b
  pub has_c : Has v c
  pub has_d : Has v d
  pub positive : pos 0 <ℤ orientation_of v a b c d
  pub clear : (u : ℕ) → Has v u → pos 0 ≤ℤ power_of v a b c d u

-- The four vertices are a cell in this order, or with the last two exchanged.
abbrev pub FormCell : Vertices → (a b c d : ℕ) → Type 0
FormCell v a b c d = IsCell v a b c d ⊎ IsCell v a b d c

-- A cell as the list of its four vertex numbers in ascending order.
abbrev pub IsRisingCell : Vertices → List ℕ → Type 0
IsRisingCell v (a ∷ b ∷ c ∷ d ∷ []) = (a < b) × (b < c) × (c < d) × FormCell v a b c d
IsRisingCell v _ = ⊥

-- The list contains exactly the cells of the Delaunay tetrahedralization, each once, its vertex numbers ascending,
-- sorted.
pub record IsCellList (v : Vertices) (rows : List (List ℕ)) : Type 0 where
  pub rising : AllPairs IsBefore rows
  pub cells : (row : List ℕ) → Contains rows row → IsRisingCell v row
  pub all : (row : List ℕ) → IsRisingCell v row → Contains rows row

-- A cell as a positively oriented tetrahedron: its sorted vertices, with the last two exchanged if necessary. Each of
-- its four directed facets then has its smallest number first.
unfoldable pub written : Vertices → List ℕ → Tetrahedron
written v row =
    let a = slice_index row 0 in
    let b = slice_index row 1 in
    let c = slice_index row 2 in
    let d = slice_index row 3 in
    if int_lt (pos 0) (orientation_of v a b c d) then tetrahedron a b c d else tetrahedron a b d c
