-- Four vertices by number, and their directed facets.
--
--   Tetrahedron                   four vertex numbers
--   DirectedFacet                 three vertex numbers
--   vertex_of t k                 vertex k of a tetrahedron
--   facet_of t k                  the directed facet opposite to vertex k of (a, b, c, d): (b, d, c), (a, c, d), (a, d,
--                                 b), (a, b, c)
--   turned f                      the facet in the other direction, from the same first vertex on
--   IsRotated f g                 g is f with its vertices moved round
--   IsTurned f g                  g is f in the other direction
--   facet_at row                  the facet of a list of three numbers
--   numbers_of f                  the list of a facet's numbers
--   is_same_facet f g             two facets are the same, from the same vertex on
--   is_among t f                  f is one of the four directed facets as `facet_of` gives them
use Rattle.std.specs.Prelude.{ℕ, zero, suc, ◌≡◌, ◌⊎◌, ◌==◌, ◌&&◌, ◌||◌, Bool, List, [], ◌∷◌, slice_index}

-- Four vertex numbers.
pub record Tetrahedron : Type 0 where
  pub a : ℕ
  pub b : ℕ
  pub c : ℕ
  pub d : ℕ

-- Three vertex numbers: a triangle with a direction. Its positive side is the side from which they turn
-- counterclockwise, and its own cell is the cell on that side.
pub record DirectedFacet : Type 0 where
  pub a : ℕ
  pub b : ℕ
  pub c : ℕ

-- Makes a tetrahedron from four numbers.
abbrev pub tetrahedron : (a b c d : ℕ) → Tetrahedron
tetrahedron a b c d = record { a = a; b = b; c = c; d = d }

-- Makes a directed facet from three numbers.
abbrev pub facet : (a b c : ℕ) → DirectedFacet
facet a b c = record { a = a; b = b; c = c }

-- vertex k, where any number above 3 is read as 3
abbrev pub vertex_of : Tetrahedron → ℕ → ℕ
vertex_of t zero = t.a
vertex_of t (suc zero) = t.b
vertex_of t (suc (suc zero)) = t.c
vertex_of t (suc (suc (suc k))) = t.d

-- The facet opposite to vertex k (0 to 3). If the tetrahedron is positively oriented, the facet is directed so that the
-- cell is on its positive side.
abbrev pub facet_of : Tetrahedron → ℕ → DirectedFacet
facet_of t zero = facet t.b t.d t.c
facet_of t (suc zero) = facet t.a t.c t.d
facet_of t (suc (suc zero)) = facet t.a t.d t.b
facet_of t (suc (suc (suc k))) = facet t.a t.b t.c

-- the same directed facet, written from any of its vertices on
abbrev pub IsRotated : DirectedFacet → DirectedFacet → Type 0
IsRotated f g = (g ≡ f) ⊎ ((g ≡ facet f.b f.c f.a) ⊎ (g ≡ facet f.c f.a f.b))

-- the facet in the other direction, written from any of its vertices on
abbrev pub IsTurned : DirectedFacet → DirectedFacet → Type 0
IsTurned f g = (g ≡ facet f.a f.c f.b) ⊎ ((g ≡ facet f.c f.b f.a) ⊎ (g ≡ facet f.b f.a f.c))

-- The same triangle in the opposite direction, with the same first vertex. It is the facet of the adjacent cell.
abbrev pub turned : DirectedFacet → DirectedFacet
turned f = facet f.a f.c f.b

-- Makes a directed facet from a list of three numbers.
abbrev pub facet_at : List ℕ → DirectedFacet
facet_at numbers = facet (slice_index numbers 0) (slice_index numbers 1) (slice_index numbers 2)

-- The list of the three numbers of a facet.
abbrev pub numbers_of : DirectedFacet → List ℕ
numbers_of f = f.a ∷ f.b ∷ f.c ∷ []

-- Tests whether two facets have the same numbers in the same order.
abbrev pub is_same_facet : DirectedFacet → DirectedFacet → Bool
is_same_facet f g = f.a == g.a && f.b == g.b && f.c == g.c

-- Tests whether f is one of the four directed facets of t.
abbrev pub is_among : Tetrahedron → DirectedFacet → Bool
is_among t f =
    is_same_facet (facet_of t 0) f || is_same_facet (facet_of t 1) f || is_same_facet (facet_of t 2) f
    || is_same_facet (facet_of t 3) f
