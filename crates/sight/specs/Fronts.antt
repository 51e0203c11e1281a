-- The facet through which a sight entered a cell, kept from cell to cell.
--
--   IsVertexImage s r n i     vertex n exists in the store, its point is in the box, and i is the image of this point
--                             on the screen of the ray r
--   AreSeen s r f             each of the three images of the front f is that of the vertex at the same index
--   KeepsFront s r c          the front has three vertices, with their images. If there is an entry side, the front is
--                             the facet of that side, from any of its vertices on
--   IsNextFront c j i         the facet through which the walk leaves at side j, as the next cell has it, is the front
--                             with its vertex i replaced by the fourth vertex. If there is no entry side, i is 3
--                             instead
--   GoesOut s r c j           the sight leaves the current cell through side j
--   HasArrived s r c          the perturbed scanner lies in the current cell
--   IsWayOut s r c way        `way` states through which side the sight leaves the current cell, which vertex of the
--                             front stays behind (`IsNextFront`), and the image of the fourth vertex if there is an
--                             entry side
use Rattle.std.specs.Prelude.{ℕ, ◌≡◌, ◌<◌, ◌⊎◌, true, length, set, slice_index, slice_index_or, get_or}
use Rattle.geo_sign.specs.declared.point.TheConstants.{BOX_LIMIT}
use Rattle.geo_sign.specs.Point.{origin, IsWithin}
use Rattle.geo_sign.specs.Rational.{displaced}
use Rattle.geo_sign.specs.Sights.{is_cell_of}
use Rattle.geo_sign.specs.Tetrahedron.{facet_at, facet_of, vertex_of, IsRotated, IsTurned}
use Rattle.tetra_store.specs.Links.{tetrahedron_from}
use Rattle.tetra_store.specs.Store.{Store, vertices_of}
use Rattle.sight.specs.declared.exit.Front.{Front}
use Rattle.sight.specs.declared.exit.Reached.{Reached}
use Rattle.sight.specs.declared.exit.WayOut.{WayOut}
use Rattle.sight.specs.declared.image.Ray.{Ray}
use Rattle.sight.specs.declared.image.Image.{Image}
use Rattle.sight.specs.Exits.{IsExit}
use Rattle.sight.specs.Images.{IsImage, no_image}

-- the image of an existing vertex
pub record IsVertexImage (s : Store) (r : Ray) (n : ℕ) (i : Image) : Type 0 where
  pub known : n < length s.points
  pub within : IsWithin BOX_LIMIT (get_or s.points n origin)
  pub image : IsImage r.screen r.point (get_or s.points n origin) i

-- each of the three
abbrev pub AreSeen : Store → Ray → Front → Type 0
AreSeen s r f = (j : ℕ) → j < 3 → IsVertexImage s r (slice_index f.vertices j) (slice_index_or f.images j no_image)

-- from any of its vertices on
pub record KeepsFront (s : Store) (r : Ray) (c : Reached) : Type 0 where
  pub three : length c.front.vertices ≡ 3
  pub three_images : length c.front.images ≡ 3
  pub facet : c.entered < 4 → IsRotated (facet_of (tetrahedron_from c.vertices) c.entered) (facet_at c.front.vertices)
  pub seen : AreSeen s r c.front

-- how the front of a cell becomes that of the next
abbrev pub IsNextFront : Reached → (j i : ℕ) → Type 0
IsNextFront c j i =
    ((c.entered ≡ 4) × (i ≡ 3))
    ⊎ ((c.entered < 4) × (i < 3)
    × IsTurned (facet_of (tetrahedron_from c.vertices) j)
    (facet_at (set c.front.vertices i (vertex_of (tetrahedron_from c.vertices) c.entered))))

-- the opposite facet of that side is crossed
abbrev pub GoesOut : Store → Ray → Reached → ℕ → Type 0
GoesOut s r c j = IsExit (vertices_of s) r.vertex (displaced r.scanner) (tetrahedron_from c.vertices) j

-- by its perturbed position
abbrev pub HasArrived : Store → Ray → Reached → Type 0
HasArrived s r c = is_cell_of (vertices_of s) (displaced r.scanner) (tetrahedron_from c.vertices) ≡ true

-- the sight leaves through its side, its next front is right, and it has the image of the vertex that the front does not have
abbrev pub IsWayOut : Store → Ray → Reached → WayOut → Type 0
IsWayOut s r c way =
    GoesOut s r c way.side × IsNextFront c way.side way.behind
    × (way.behind < 3 → IsVertexImage s r (slice_index c.vertices c.entered) way.image)
