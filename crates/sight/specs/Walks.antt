-- The view of a walk along a sight in contracts.
--
--   Walk                        a walk as contracts see it: the store, the vertex, the scanner, the cell reached, the
--                               side through which it was entered, and the facets still to come. Each of these is a
--                               side of the cell that is entered through it
--   first_of a b c d            the index, 0 to 3, of the first of four tests that holds, or none
--   leaves v p s t k            whether the sight leaves t through side k, on the way to s
--   exit_of v p s t             the first side through which the sight leaves t, or none
--   is_some_of n x              whether the neighbor n exists and is the cell x
--   number_first a b c          the index, 0 to 2, of the first of three tests that holds, or 3 if none does
--   side_naming links y x       the side of the cell y at which the cell x is its neighbor (the first of 0 to 2, or
--                               else 3)
--   next_side s p o x           the next facet that the sight crosses from the cell x on, as a side of the cell that it
--                               enters; none in the scanner's cell
--   sides_from s p o x          the facets through which the sight leaves cells, from the cell x on. The list to come
--                               of a walk is computed by this; `IsSight` says what it is
--   IsSight w                   the walk is at its start: in the cell towards the scanner, with no side entered. The
--                               list to come has exactly the facets that the sight crosses, each once, and each nearer
--                               to the vertex than every later one. Each leads from the cell before to the next, the
--                               last to the scanner's cell. There is one such list (`PathLaw`)
--   IsGoneOn w v                the walk v is the walk w after one facet. The first side to come in w is the one
--                               through which v entered its cell, and the others are still to come in v. The cell that
--                               w had reached is adjacent there
--   IsTaken w v c               `IsGoneOn`, and the crossing c is that facet, written as in the cell that v has reached
--                               (on the scanner's side). The cell on the point's side is the one that w had reached
--   IsEndCell s o e             the live cell e contains the scanner at o; there is one (`ScannerLaw`)
--   walk_of s r c               the walk (`Walk`) of a ray that has reached this cell, through this entry side
--   IsWalking s r c             the invariant of a walk, except its screen and front: the cells are Delaunay, the
--                               current cell is live, and the sight entered it through its entry side
--
-- The list to come is a function of the store, the sight and the current cell, so it is no field of a walk: `sides_from` is
-- that list. A reader has to trust `IsSight` alone, which determines the list: the crossed facets, each once, in their order.
use Rattle.std.specs.Prelude.{ℕ, zero, suc, ◌≡◌, ◌<◌, ◌==◌, Bool, true, false, List, [], ◌∷◌, Option, Some, None, length}
use Rattle.geo_sign.specs.declared.point.TheConstants.{DATA_LIMIT}
use Rattle.geo_sign.specs.Point.{Point, IsWithin}
use Rattle.geo_sign.specs.Rational.{RationalPoint, displaced}
use Rattle.geo_sign.specs.Sights.{is_crossed, is_towards, is_cell_of}
use Rattle.geo_sign.specs.Tetrahedron.{Tetrahedron, facet_at, facet_of, turned}
use Rattle.geo_sign.specs.Vertices.{Vertices, Has}
use Rattle.cell_laws.specs.Links.{Side}
use Rattle.cell_laws.specs.Lists.{IsIn, count}
use Rattle.geo_sign.specs.Edges.{one_if}
use Rattle.cell_laws.specs.Paths.{is_that, entered_facet, IsSightPath, AreNearing}
use Rattle.tetra_store.specs.Links.{Links, links_of, tetrahedron_from, IsLive}
use Rattle.tetra_store.specs.Store.{Store, vertices_of}
use Rattle.tetra_store.specs.Delaunay.{IsDelaunay}
use Rattle.tetra_store.specs.Stored.{live_of}
use Rattle.sight.specs.declared.along.Crossing.{Crossing}
use Rattle.sight.specs.declared.exit.Reached.{Reached}
use Rattle.sight.specs.declared.image.Ray.{Ray}
use Rattle.sight.specs.Exits.{IsEntered}

-- the sight from a vertex to the scanner at a point, through the cells of a store
pub record Walk : Type 0 where
  pub store : Store
  pub vertex : ℕ
  pub scanner : Point
  pub at : ℕ
  pub entered : ℕ
  pub to_come : List Side

-- ---- the facets to come
-- the first test of four that holds
abbrev pub first_of : (a b c d : Bool) → Option ℕ
first_of true b c d = Some 0
first_of false true c d = Some 1
first_of false false true d = Some 2
first_of false false false true = Some 3
first_of false false false false = None

-- the opposite facet is crossed: the scanner is behind the facet, and the vertex before it
abbrev pub leaves : Vertices → (p : ℕ) → RationalPoint → Tetrahedron → ℕ → Bool
leaves v p s t k = is_crossed v p s (turned (facet_of t k))

-- the side through which the sight leaves the cell
abbrev pub exit_of : Vertices → (p : ℕ) → RationalPoint → Tetrahedron → Option ℕ
exit_of v p s t = first_of (leaves v p s t 0) (leaves v p s t 1) (leaves v p s t 2) (leaves v p s t 3)

-- the adjacent cell is this cell
abbrev pub is_some_of : Option ℕ → ℕ → Bool
is_some_of None x = false
is_some_of (Some y) x = y == x

-- the first of three tests that holds, and else 3
abbrev pub number_first : (a b c : Bool) → ℕ
number_first true b c = 0
number_first false true c = 1
number_first false false true = 2
number_first false false false = 3

-- the side of y whose adjacent cell is x
abbrev pub side_naming : Links → (y x : ℕ) → ℕ
side_naming links y x =
    number_first (is_some_of (links.next y 0) x) (is_some_of (links.next y 1) x) (is_some_of (links.next y 2) x)

-- the side of the neighbor n, if there is one, at which the cell x is its neighbor
abbrev pub side_into : Links → ℕ → Option ℕ → Option Side
side_into links x None = None
side_into links x (Some y) = Some (record { at = y; side = side_naming links y x })

-- `side_into` of the neighbor of the cell x at side k, if a side is given
abbrev pub side_through : Links → ℕ → Option ℕ → Option Side
side_through links x None = None
side_through links x (Some k) = side_into links x (links.next x k)

-- where the sight goes on from the cell x
abbrev pub next_side : Store → (p : ℕ) → Point → ℕ → Option Side
next_side s p o x = side_through (links_of s.slots) x (exit_of (vertices_of s) p (displaced o) ((links_of s.slots).at x))

-- if a side is given, the list of this side and then of what a function gives for its cell; else the empty list
abbrev pub with_rest : Option Side → (ℕ → List Side) → List Side
with_rest None rest = []
with_rest (Some c) rest = c ∷ rest c.at

-- the facets that the sight crosses from the cell x on (`next_side`), at most n of them
abbrev pub sides_within : Store → (p : ℕ) → Point → ℕ → ℕ → List Side
sides_within s p o zero x = []
sides_within s p o (suc n) x = with_rest (next_side s p o x) (sides_within s p o n)

-- no cell is visited twice, so there are at most as many as slots
unfoldable pub sides_from : Store → (p : ℕ) → Point → ℕ → List Side
sides_from s p o x = sides_within s p o (length s.slots) x

-- ---- what they are
-- the walk before its first step: exactly the facets that the sight crosses are to come
pub record IsSight (w : Walk) : Type 0 where
  -- it came through no side yet
  pub begun : w.entered ≡ 4
  -- the cell reached is the one at the vertex that is towards the scanner
  pub live : IsLive (links_of w.store.slots) w.at
  pub towards : is_towards (vertices_of w.store) w.vertex (displaced w.scanner) ((links_of w.store.slots).at w.at) ≡ true
  -- each facet is between the cell reached and the next one, and the last cell is the scanner's
  pub path : IsSightPath (vertices_of w.store) (live_of w.store.slots) (links_of w.store.slots).at (links_of w.store.slots).next
      w.vertex (displaced w.scanner) w.at w.to_come
  pub crossed : (c : Side) → IsIn w.to_come c
      → IsLive (links_of w.store.slots) c.at × (c.side < 4)
      × (is_crossed (vertices_of w.store) w.vertex (displaced w.scanner) (entered_facet (links_of w.store.slots).at c) ≡ true)
  -- each facet occurs in the list once if the sight crosses it, and else not at all
  pub counted : (c : Side) → IsLive (links_of w.store.slots) c.at → c.side < 4
      → count (is_that c) w.to_come
      ≡ one_if (is_crossed (vertices_of w.store) w.vertex (displaced w.scanner) (entered_facet (links_of w.store.slots).at c))
  -- each is nearer to the vertex than each later one
  pub nearing : AreNearing (vertices_of w.store) (links_of w.store.slots).at w.vertex (displaced w.scanner) w.to_come

-- a step from w to v: the current cell of v is adjacent through the first of the facets to come in w, and v has the others
pub record IsGoneOn (w v : Walk) : Type 0 where
  pub same : (v.store ≡ w.store) × (v.vertex ≡ w.vertex) × (v.scanner ≡ w.scanner)
  pub first : w.to_come ≡ record { at = v.at; side = v.entered } ∷ v.to_come
  pub side_in : v.entered < 4
  pub live : IsLive (links_of w.store.slots) v.at
  pub across : (links_of w.store.slots).next v.at v.entered ≡ Some w.at

-- such a step with its facet: the cell that is entered is the scanner side, with this facet; the cell left is the point side,
-- adjacent through that facet
pub record IsTaken (w v : Walk) (c : Crossing) : Type 0 where
  pub on : IsGoneOn w v
  pub scanner_side : c.scanner_side ≡ v.at
  pub point_side : c.point_side ≡ w.at
  pub facet : facet_at c.facet ≡ facet_of ((links_of w.store.slots).at v.at) v.entered

-- ---- what is kept
-- the sight of the ray, at the cell reached
abbrev pub walk_of : Store → Ray → Reached → Walk
walk_of s r c =
    record {
      store = s;
      vertex = r.vertex;
      scanner = r.scanner;
      at = c.at;
      entered = c.entered;
      to_come = sides_from s r.vertex r.scanner c.at;
    }

-- the current cell has its four vertices, and the sight entered it through its side
pub record IsWalking (s : Store) (r : Ray) (c : Reached) : Type 0 where
  pub delaunay : IsDelaunay (vertices_of s) (links_of s.slots)
  pub inserted : Has (vertices_of s) r.vertex
  pub data_point : IsWithin DATA_LIMIT r.scanner
  pub live : IsLive (links_of s.slots) c.at
  pub loaded : (links_of s.slots).at c.at ≡ tetrahedron_from c.vertices
  pub came : IsEntered (vertices_of s) r.vertex (displaced r.scanner) (tetrahedron_from c.vertices) c.entered

-- the scanner lies in the live cell e
pub record IsEndCell (s : Store) (o : Point) (e : ℕ) : Type 0 where
  pub live : IsLive (links_of s.slots) e
  pub is : is_cell_of (vertices_of s) (displaced o) ((links_of s.slots).at e) ≡ true
