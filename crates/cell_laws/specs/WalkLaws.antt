-- Theorems on walks through the cells, on places near a vertex, and on sights. A sight goes from a vertex p to the place of a
-- symbolically perturbed scanner at s.
--
--   StepLaw       a walk over linked cells to a place of the box goes on, and ends
--   NearLaw       the places to which walks go are in the box. On which side of a facet a place of walks is follows
--                 from the side of the vertex, and if the vertex is in the plane of the facet, from the side of the
--                 scanner
--   SpreadLaw     a perturbed scanner is in the plane of no three points but those on one line
--   ScannerLaw    each scanner has one cell
--   VertexSightLaw   each sight has one cell towards its scanner, and one behind
--   SightLaw      a cell on a sight is left through one facet, or is the scanner's
--   PathLaw       the way of a sight over linked cells: there is one, and it has each crossed facet once, the nearer first
use Rattle.std.specs.Prelude.{ℕ, ◌<◌, ◌≤◌, ◌≡◌, ◌⊎◌, true, pos, ◌<ℤ◌, Option, Some, List}
use Rattle.geo_sign.specs.Point.{Point, IsWithin}
use Rattle.geo_sign.specs.declared.point.TheConstants.{BOX_LIMIT, CORNERS, DATA_LIMIT}
use Rattle.geo_sign.specs.Orientation.{orientation, IsOnLine}
use Rattle.geo_sign.specs.Rational.{RationalPoint, displaced, side}
use Rattle.geo_sign.specs.Signs.{sign_of, first_sign, opposite_sign}
use Rattle.geo_sign.specs.Tetrahedron.{Tetrahedron, facet_of, turned}
use Rattle.geo_sign.specs.Vertices.{Vertices, Has}
use Rattle.geo_sign.specs.Cells.{IsCell}
use Rattle.geo_sign.specs.Sights.{side_of, is_crossed, is_towards, is_behind, is_cell_of}
use Rattle.geo_sign.specs.Boxes.{IsBoxed}
use Rattle.geo_sign.specs.Places.{IsInBox, IsLyingIn}
use Rattle.cell_laws.specs.Lifts.{is_higher}
use Rattle.cell_laws.specs.Links.{Side, AreLinked}
use Rattle.cell_laws.specs.Lists.{IsIn, AreCells, count}
use Rattle.geo_sign.specs.Edges.{one_if}
use Rattle.geo_sign.specs.NearPlaces.{towards_place, behind_place}
use Rattle.cell_laws.specs.Paths.{IsOnSight, is_that, entered_facet, IsSightPath, AreNearing}
use Rattle.geo_sign.specs.Writings.{IsRewritten}

-- ---- a walk to q
-- behind each facet of a cell that has the place q behind it there is an adjacent cell. The number of cells that are
-- higher at q than this adjacent cell is smaller than the number of those that are higher than the cell itself. A cell
-- with no such facet contains q
pub record IsWalk (v : Vertices) (live : List ℕ) (cell : ℕ → Tetrahedron) (next : ℕ → ℕ → Option ℕ)
    (q : RationalPoint) : Type 0 where
  pub goes_on :
      (x k : ℕ) → IsIn live x → k < 4 → side_of v (facet_of (cell x) k) q <ℤ pos 0 → (y : ℕ) × (next x k ≡ Some y) × IsIn live y
  pub falls :
      (x k y : ℕ) → IsIn live x → k < 4 → side_of v (facet_of (cell x) k) q <ℤ pos 0 → next x k ≡ Some y →
      count (λ z. is_higher v q (cell y) (cell z)) live < count (λ z. is_higher v q (cell x) (cell z)) live
  pub ends : (x : ℕ) → ((k : ℕ) → k < 4 → ¬ (side_of v (facet_of (cell x) k) q <ℤ pos 0)) → IsLyingIn v (cell x) q

abbrev pub StepLaw : Type 0
StepLaw =
    (v : Vertices) → IsBoxed v → (live : List ℕ) (cell : ℕ → Tetrahedron) (next : ℕ → ℕ → Option ℕ) →
    AreLinked v live cell next → AreCells v live cell → (q : RationalPoint) → IsInBox q → IsWalk v live cell next q

-- ---- places near a data point
-- p is moved a little towards the perturbed scanner, or away from it. It is then on the same side of each facet as p.
-- If p is in the plane of the facet, it is on the side of the scanner if it was moved towards it, else on the other
-- side
pub record AreNear (p s : Point) : Type 0 where
  pub towards_in_box : IsInBox (towards_place p s)
  pub behind_in_box : IsInBox (behind_place p s)
  pub scanner_in_box : IsInBox (displaced s)
  pub towards_sign :
      (a b c : Point) → IsWithin BOX_LIMIT a → IsWithin BOX_LIMIT b → IsWithin BOX_LIMIT c →
      sign_of (side a b c (towards_place p s)) ≡ first_sign (sign_of (orientation a b c p)) (sign_of (side a b c (displaced s)))
  pub behind_sign :
      (a b c : Point) → IsWithin BOX_LIMIT a → IsWithin BOX_LIMIT b → IsWithin BOX_LIMIT c
      → sign_of (side a b c (behind_place p s)) ≡
      first_sign (sign_of (orientation a b c p)) (opposite_sign (sign_of (side a b c (displaced s))))

abbrev pub NearLaw : Type 0
NearLaw = (p s : Point) → IsWithin DATA_LIMIT p → IsWithin DATA_LIMIT s → AreNear p s

abbrev pub SpreadLaw : Type 0
SpreadLaw =
    (a b c s : Point) → IsWithin BOX_LIMIT a → IsWithin BOX_LIMIT b → IsWithin BOX_LIMIT c → side a b c (displaced s) ≡ pos 0 →
    IsOnLine a b c

-- ---- the cells of a scanner and of a sight
-- the cell in which the scanner lies is its cell, and no other is
pub record HasScannerCell (v : Vertices) (s : Point) : Type 0 where
  pub lies : (t : Tetrahedron) → IsCell v t.a t.b t.c t.d → IsLyingIn v t (displaced s) → is_cell_of v (displaced s) t ≡ true
  pub one :
      (t r : Tetrahedron) → IsCell v t.a t.b t.c t.d → IsCell v r.a r.b r.c r.d → is_cell_of v (displaced s) t ≡ true →
      is_cell_of v (displaced s) r ≡ true → IsRewritten t r
  pub some : (t : Tetrahedron) × IsCell v t.a t.b t.c t.d × (is_cell_of v (displaced s) t ≡ true)

abbrev pub ScannerLaw : Type 0
ScannerLaw = (v : Vertices) → IsBoxed v → (s : Point) → IsWithin DATA_LIMIT s → HasScannerCell v s

-- the cell that holds the place near p is the one towards the scanner, or behind the sight, and no other is
pub record HasSightCells (v : Vertices) (p : ℕ) (s : Point) : Type 0 where
  pub towards :
      (t : Tetrahedron) → IsCell v t.a t.b t.c t.d → IsLyingIn v t (towards_place (v.at p) s) →
      is_towards v p (displaced s) t ≡ true
  pub one_towards :
      (t r : Tetrahedron) → IsCell v t.a t.b t.c t.d → IsCell v r.a r.b r.c r.d → is_towards v p (displaced s) t ≡ true →
      is_towards v p (displaced s) r ≡ true → IsRewritten t r
  pub behind :
      (t : Tetrahedron) → IsCell v t.a t.b t.c t.d → IsLyingIn v t (behind_place (v.at p) s) →
      is_behind v p (displaced s) t ≡ true
  pub one_behind :
      (t r : Tetrahedron) → IsCell v t.a t.b t.c t.d → IsCell v r.a r.b r.c r.d → is_behind v p (displaced s) t ≡ true →
      is_behind v p (displaced s) r ≡ true → IsRewritten t r
  -- for a data point there are two such cells
  pub some :
      CORNERS ≤ p → ((t : Tetrahedron) × IsCell v t.a t.b t.c t.d × (is_towards v p (displaced s) t ≡ true)) ×
      ((t : Tetrahedron) × IsCell v t.a t.b t.c t.d × (is_behind v p (displaced s) t ≡ true))

abbrev pub VertexSightLaw : Type 0
VertexSightLaw = (v : Vertices) → IsBoxed v → (p : ℕ) → Has v p → (s : Point) → IsWithin DATA_LIMIT s → HasSightCells v p s

-- ---- along a sight
-- a cell on a sight has one way out, which is a crossed facet, or has the scanner in it; and it has one way in at most
pub record IsPassedOnce (v : Vertices) (p : ℕ) (s : RationalPoint) (t : Tetrahedron) : Type 0 where
  pub exit_or_end :
      IsOnSight v p s t → ((k : ℕ) × (k < 4) × (is_crossed v p s (turned (facet_of t k)) ≡ true)) ⊎ (is_cell_of v s t ≡ true)
  pub not_both : (k : ℕ) → is_crossed v p s (turned (facet_of t k)) ≡ true → ¬ (is_cell_of v s t ≡ true)
  pub one_exit :
      (j k : ℕ) → j < 4 → k < 4 → is_crossed v p s (turned (facet_of t j)) ≡ true →
      is_crossed v p s (turned (facet_of t k)) ≡ true → j ≡ k
  pub one_entry :
      (j k : ℕ) → j < 4 → k < 4 → is_crossed v p s (facet_of t j) ≡ true → is_crossed v p s (facet_of t k) ≡ true → j ≡ k

abbrev pub SightLaw : Type 0
SightLaw =
    (v : Vertices) → IsBoxed v → (p : ℕ) → Has v p → (s : Point) → IsWithin DATA_LIMIT s → (t : Tetrahedron) →
    IsCell v t.a t.b t.c t.d → IsPassedOnce v p (displaced s) t

-- from each cell on a sight exactly one way leads on to the scanner. It goes through crossed facets, each nearer to p
-- than the next. The way from the cell at p towards the scanner has all crossed facets
pub record HasPaths (v : Vertices) (live : List ℕ) (cell : ℕ → Tetrahedron) (next : ℕ → ℕ → Option ℕ) (p : ℕ)
    (s : RationalPoint) : Type 0 where
  pub some : (x : ℕ) → IsIn live x → IsOnSight v p s (cell x) → (cs : List Side) × IsSightPath v live cell next p s x cs
  pub one :
      (x : ℕ) (cs ds : List Side) → IsIn live x → IsSightPath v live cell next p s x cs → IsSightPath v live cell next p s x ds → cs ≡ ds
  pub crossed :
      (x : ℕ) (cs : List Side) → IsSightPath v live cell next p s x cs → (c : Side) → IsIn cs c →
      IsIn live c.at × (c.side < 4) × (is_crossed v p s (entered_facet cell c) ≡ true)
  pub all :
      (x : ℕ) (cs : List Side) → IsIn live x → is_towards v p s (cell x) ≡ true → IsSightPath v live cell next p s x cs →
      (c : Side) → IsIn live c.at → c.side < 4 → is_crossed v p s (entered_facet cell c) ≡ true → IsIn cs c
  pub nearing : (x : ℕ) (cs : List Side) → IsSightPath v live cell next p s x cs → AreNearing v cell p s cs
  -- so each facet stands in it once or not at all, as the sight crosses it or not
  pub counted :
      (x : ℕ) (cs : List Side) → IsIn live x → is_towards v p s (cell x) ≡ true → IsSightPath v live cell next p s x cs →
      (c : Side) → IsIn live c.at → c.side < 4 → count (is_that c) cs ≡ one_if (is_crossed v p s (entered_facet cell c))

abbrev pub PathLaw : Type 0
PathLaw =
    (v : Vertices) → IsBoxed v → (live : List ℕ) (cell : ℕ → Tetrahedron) (next : ℕ → ℕ → Option ℕ) →
    AreLinked v live cell next → AreCells v live cell → (p : ℕ) → Has v p → (s : Point) → IsWithin DATA_LIMIT s →
    HasPaths v live cell next p (displaced s)
