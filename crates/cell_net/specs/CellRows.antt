-- A cell's numbers as they rise, and a facet from its least number on, as the code computes them.
--
--   low x y                the smaller of two numbers
--   high x y               the larger one
--   order_ab t, ..         two of the four in order
--   risen t                the tetrahedron with all four numbers in ascending order, by the five steps `order_ab`,
--                          `order_cd`, `order_ac`, `order_bd` and `order_bc`
--   row_from t             the list of the four numbers of a tetrahedron
--   least_first f          the facet from its smallest number on, in the same direction
--   facet_row t k          the three numbers of the facet of side k of t, from the smallest on
use Rattle.std.specs.Prelude.{ℕ, ◌&&◌, nat_lt, List, [], ◌∷◌, if◌then◌else◌}
use Rattle.geo_sign.specs.Tetrahedron.{Tetrahedron, tetrahedron, DirectedFacet, facet, facet_of, numbers_of}

-- the less of two
abbrev pub low : ℕ → ℕ → ℕ
low x y = if nat_lt y x then y else x

-- the greater of two
abbrev pub high : ℕ → ℕ → ℕ
high x y = if nat_lt y x then x else y

-- the tetrahedron with its numbers a and b in ascending order
abbrev pub order_ab : Tetrahedron → Tetrahedron
order_ab t = tetrahedron (low t.a t.b) (high t.a t.b) t.c t.d

-- the tetrahedron with its numbers c and d in ascending order
abbrev pub order_cd : Tetrahedron → Tetrahedron
order_cd t = tetrahedron t.a t.b (low t.c t.d) (high t.c t.d)

-- the tetrahedron with its numbers a and c in ascending order
abbrev pub order_ac : Tetrahedron → Tetrahedron
order_ac t = tetrahedron (low t.a t.c) t.b (high t.a t.c) t.d

-- the tetrahedron with its numbers b and d in ascending order
abbrev pub order_bd : Tetrahedron → Tetrahedron
order_bd t = tetrahedron t.a (low t.b t.d) t.c (high t.b t.d)

-- the tetrahedron with its numbers b and c in ascending order
abbrev pub order_bc : Tetrahedron → Tetrahedron
order_bc t = tetrahedron t.a (low t.b t.c) (high t.b t.c) t.d

-- first in pairs, then the lesser of both pairs and the greater, then the two in the middle
unfoldable pub risen : Tetrahedron → Tetrahedron
risen t = order_bc (order_bd (order_ac (order_cd (order_ab t))))

-- in the order in which they stand
abbrev pub row_from : Tetrahedron → List ℕ
row_from t = t.a ∷ t.b ∷ t.c ∷ t.d ∷ []

-- of three distinct numbers
unfoldable pub least_first : DirectedFacet → DirectedFacet
least_first f =
    if nat_lt f.a f.b && nat_lt f.a f.c then f else (if nat_lt f.b f.c then facet f.b f.c f.a else facet f.c f.a f.b)

-- as the cell has it
abbrev pub facet_row : Tetrahedron → ℕ → List ℕ
facet_row t k = numbers_of (least_first (facet_of t k))
