-- The twelve ways to write a tetrahedron positively: the even rearrangements of its four vertices.
--
--   spin t               a step: the first three vertices move round
--   swap t               a step: the first two are exchanged, and so are the last two
--   after_steps steps t  the tetrahedron after such steps, one after another
--   IsRewritten t r      some steps lead from t to r, so r is one of the twelve even permutations of t
--   IsVertexOf t u       u is one of the vertices of t
use Rattle.std.specs.Prelude.{ℕ, ◌≡◌, ◌⊎◌, Bool, true, false, List, [], ◌∷◌}
use Rattle.geo_sign.specs.Tetrahedron.{Tetrahedron, tetrahedron}

-- the first three vertices moved round
abbrev pub spin : Tetrahedron → Tetrahedron
spin t = tetrahedron t.b t.c t.a t.d

-- the first two vertices exchanged, and the last two
abbrev pub swap : Tetrahedron → Tetrahedron
swap t = tetrahedron t.b t.a t.d t.c

-- steps one after another, the last of the list first; true is a spin
abbrev pub after_steps : List Bool → Tetrahedron → Tetrahedron
after_steps [] t = t
after_steps (true ∷ steps) t = spin (after_steps steps t)
after_steps (false ∷ steps) t = swap (after_steps steps t)

-- some steps lead from t to r
abbrev pub IsRewritten : Tetrahedron → Tetrahedron → Type 0
IsRewritten t r = (steps : List Bool) × (after_steps steps t ≡ r)

-- u is one of the four vertices
abbrev pub IsVertexOf : Tetrahedron → ℕ → Type 0
IsVertexOf t u = (u ≡ t.a) ⊎ ((u ≡ t.b) ⊎ ((u ≡ t.c) ⊎ (u ≡ t.d)))
