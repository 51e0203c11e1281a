-- A store in the words of the laws of cells. What the store keeps of its links says what the laws ask of linked cells, and
-- linked cells that are Delaunay are all cells of the store's vertices. Where all of these are in, they are all cells of any
-- scene of its points.
use Rattle.std.proofs.Common.{ℕ, ◌+◌, ◌<◌, ◌≡◌, ap, subst, ◌∙◌, arith, Bool}
use Rattle.std.proofs.Common.{true, false, Option, List, ◌++◌, length, get_or}
use Rattle.std.proofs.lemmas.List.{length-append}
use Rattle.geo_sign.specs.Point.{Point}
use Rattle.geo_sign.specs.Tie.{height}
use Rattle.geo_sign.specs.Vertices.{Vertices, corners, point_of}
use Rattle.geo_sign.specs.Vertices.{boxed_vertices}
use Rattle.geo_sign.specs.Boxes.{inserted_vertices}
use Rattle.cell_laws.specs.Links.{AreLinked}
use Rattle.cell_laws.specs.LinkLaws.{AreAllCells}
use Rattle.cell_laws.specs.Lists.{IsIn, AreCells}
use Rattle.cell_laws.proofs.Laws.{linked_law}
use Rattle.cell_laws.proofs.RisingRows as rows
use Rattle.cell_laws.proofs.Stored.{stored_law}
use Rattle.tetra_store.specs.declared.link.Cell.{Cell}
use Rattle.tetra_store.specs.Links.{links_of, IsLive}
use Rattle.tetra_store.specs.Store.{Store, IsStore, vertices_at, vertices_of}
use Rattle.tetra_store.specs.Delaunay.{IsDelaunay}
use Rattle.tetra_store.specs.Stored.{live_of}
use Rattle.tetra_store.proofs.Live.{has_live, listed_is_live}
use Rattle.cell_net.specs.StoredCells.{StoredCellsLaw}

-- ---- the list of the live numbers
-- a live number is in the list
pub listed : (slots : List (Option Cell)) (id : ℕ) → IsLive (links_of slots) id → IsIn (live_of slots) id
listed slots id e = rows.is_listed (live_of slots) id (has_live slots id e)

-- and what is in the list is live
pub live : (slots : List (Option Cell)) (id : ℕ) → IsIn (live_of slots) id → IsLive (links_of slots) id
live slots id h = listed_is_live slots id (rows.listed (live_of slots) id h)

-- ---- the links
linked : (s : Store) → IsStore s → AreLinked (vertices_of s) (live_of s.slots) (links_of s.slots).at (links_of s.slots).next
linked s k =
    let l = k.linked in
    record {
      back = λ x i y h m e.
          (let b = l.back x i y (live s.slots x h) m e in
          record { listed = listed s.slots y b.live; side = b.side; in_range = b.in_range; turned = b.turned });
      walls = λ x i h m e. l.walls x i (live s.slots x h) m e;
      apart = λ x y i j h g m n r. l.apart x y i j (live s.slots x h) (live s.slots y g) m n r;
    }

-- there is a cell: corner 0 has a kept one
first_listed : (s : Store) → IsStore s → (x : ℕ) × IsIn (live_of s.slots) x
first_listed s k =
    let z = k.kept_cells 0 (k.vertices.boxed.corner_in 0 (omega arith)) in
    (_, listed s.slots _ z.0)

all_cells : (s : Store) → IsStore s → IsDelaunay (vertices_of s) (links_of s.slots) → AreAllCells (vertices_of s)
    (live_of s.slots) (links_of s.slots).at (links_of s.slots).next
all_cells s k d =
    let z = first_listed s k in
    let cells : AreCells (vertices_of s) (live_of s.slots) (links_of s.slots).at = λ x h. d.cells x (live s.slots x h) in
    record {
      boxed = k.vertices.boxed;
      linked = linked s k;
      cells = cells;
      listing =
          linked_law (vertices_of s) k.vertices.boxed (live_of s.slots) (links_of s.slots).at (links_of s.slots).next
          (linked s k) cells z.0 z.1;
    }

-- ---- the vertices of the store's points, all in
vertices_are : (places : List Point) (points : List Point) (flags : List Bool) → places ≡ corners ++ points
    → vertices_at places flags ≡ inserted_vertices points flags
vertices_are places points flags e =
    ap (λ (ps : List Point). vertices_at ps flags) e
    ∙ ap (λ (n : ℕ).
    let v : Vertices = record {
      at = point_of points;
      high = λ u. height n u (point_of points u);
      count = n;
      is_in = λ u. get_or flags u false;
    } in
    v)
    (length-append corners points)

pub whole : (s : Store) (points : List Point) → IsStore s → s.points ≡ corners ++ points → IsDelaunay (vertices_of s)
    (links_of s.slots)
    → ((u : ℕ) → u < length s.points → get_or s.inserted u false ≡ true)
    → AreAllCells (boxed_vertices points) (live_of s.slots)
    (links_of s.slots).at (links_of s.slots).next
whole s points k e d inserted =
    (stored_law points s.inserted).whole (λ u l. inserted u (let n = count in omega (arith, l, n))) (live_of s.slots)
    (links_of s.slots).at (links_of s.slots).next
    (subst (λ (v : Vertices). AreAllCells v (live_of s.slots) (links_of s.slots).at (links_of s.slots).next)
    (vertices_are s.points points s.inserted e) (all_cells s k d))
  where
    count : length s.points ≡ 8 + length points
    count = ap (λ (ps : List Point). length ps) e ∙ length-append corners points

pub stored_cells_law : StoredCellsLaw
stored_cells_law s points k e d inserted scanners sights settings = whole s points k e d inserted
