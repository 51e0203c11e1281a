-- Theorems on linked cells of any store: a list of live names, the cell of each, and the neighbor at each side.
--
--   LinkedLaw     linked cells, at least one and all of them cells of the vertices, are all cells, each once
--   FoundLaw      the cell in which a new vertex lies is in conflict with it
--   CavityLaw     a flood over the links marks exactly the cells in conflict
--   RimLaw        the boundary of the conflict region is what links show at the sides of cells in conflict
use Rattle.std.specs.Prelude.{ℕ, ◌<◌, ◌≡◌, Bool, true, false, Option, List}
use Rattle.geo_sign.specs.Rational.{rational}
use Rattle.geo_sign.specs.Tetrahedron.{Tetrahedron, facet_of}
use Rattle.geo_sign.specs.Vertices.{Vertices}
use Rattle.geo_sign.specs.Cells.{IsCell}
use Rattle.geo_sign.specs.Boxes.{IsBoxed, IsNew, IsInConflict, IsClearOf}
use Rattle.geo_sign.specs.Places.{IsLyingIn}
use Rattle.cell_laws.specs.Fans.{IsOnFan}
use Rattle.cell_laws.specs.Lists.{IsIn, AreCells, IsListing}
use Rattle.cell_laws.specs.Links.{AreLinked, IsFlooded, IsRimSide, IsFanAt}

abbrev pub LinkedLaw : Type 0
LinkedLaw =
    (v : Vertices) → IsBoxed v → (live : List ℕ) (cell : ℕ → Tetrahedron) (next : ℕ → ℕ → Option ℕ) →
    AreLinked v live cell next → AreCells v live cell → (x : ℕ) → IsIn live x → IsListing v live cell

abbrev pub FoundLaw : Type 0
FoundLaw =
    (v : Vertices) → IsBoxed v → (p : ℕ) → IsNew v p → (t : Tetrahedron) → IsCell v t.a t.b t.c t.d →
    IsLyingIn v t (rational (v.at p)) → IsInConflict v p t

-- the removed cells are those in conflict with p
pub record AreConflicts (v : Vertices) (p : ℕ) (live : List ℕ) (cell : ℕ → Tetrahedron) (removed : ℕ → Bool) : Type 0 where
  pub taken : (x : ℕ) → IsIn live x → removed x ≡ true → IsInConflict v p (cell x)
  pub kept : (x : ℕ) → IsIn live x → removed x ≡ false → IsClearOf v p (cell x)

abbrev pub CavityLaw : Type 0
CavityLaw =
    (v : Vertices) → IsBoxed v → (p : ℕ) → IsNew v p → (live : List ℕ) (cell : ℕ → Tetrahedron) (next : ℕ → ℕ → Option ℕ) →
    AreLinked v live cell next → AreCells v live cell → (marked : ℕ → Bool) → IsFlooded v p live cell next marked →
    ((x : ℕ) → IsIn live x → marked x ≡ true → IsInConflict v p (cell x)) → (x : ℕ) → IsIn live x → marked x ≡ true →
    AreConflicts v p live cell marked

-- the boundary of the conflict region, defined by all cells, is what links show at the sides of the cells in conflict
pub record IsRimLaw (v : Vertices) (p : ℕ) (live : List ℕ) (cell : ℕ → Tetrahedron) (next : ℕ → ℕ → Option ℕ) : Type 0 where
  pub fan :
      (x k : ℕ) → IsIn live x → k < 4 → IsInConflict v p (cell x) → IsRimSide v p cell next x k →
      IsOnFan v p (facet_of (cell x) k).a (facet_of (cell x) k).b (facet_of (cell x) k).c
  pub all : (a b c : ℕ) → IsOnFan v p a b c → IsFanAt v p live cell next a b c

abbrev pub RimLaw : Type 0
RimLaw =
    (v : Vertices) → IsBoxed v → (p : ℕ) (live : List ℕ) (cell : ℕ → Tetrahedron) (next : ℕ → ℕ → Option ℕ) →
    AreLinked v live cell next → AreCells v live cell → (x : ℕ) → IsIn live x → IsRimLaw v p live cell next

-- vertices of the box with linked cells that are all cells, each once
pub record AreAllCells (v : Vertices) (live : List ℕ) (cell : ℕ → Tetrahedron) (next : ℕ → ℕ → Option ℕ) : Type 0 where
  pub boxed : IsBoxed v
  pub linked : AreLinked v live cell next
  pub cells : AreCells v live cell
  pub listing : IsListing v live cell
