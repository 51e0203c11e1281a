-- A store in the words of the laws of cells: its live numbers are the names, its links the neighbors. What the store keeps of
-- its links then says what the laws ask of linked cells, name by name, and linked cells that are Delaunay are all cells, each
-- once.
use Rattle.std.proofs.Common.{ℕ, arith}
use Rattle.std.proofs.Common.{Option, List}
use Rattle.cell_laws.specs.Links.{AreLinked}
use Rattle.cell_laws.specs.Lists.{IsIn, AreCells, IsListing}
use Rattle.cell_laws.proofs.Laws.{linked_law}
use Rattle.cell_laws.proofs.RisingRows as rows
use Rattle.tetra_store.specs.declared.link.Cell.{Cell}
use Rattle.tetra_store.specs.Links.{links_of, IsLive}
use Rattle.tetra_store.specs.Store.{Store, vertices_of, IsStore}
use Rattle.tetra_store.specs.Delaunay.{IsDelaunay}
use Rattle.tetra_store.specs.Stored.{live_of}
use Rattle.tetra_store.proofs.Live.{has_live, listed_is_live}

-- ---- the list of the live numbers
-- a live number is in the list
pub listed : (slots : List (Option Cell)) (id : ℕ) → IsLive (links_of slots) id → IsIn (live_of slots) id
listed slots id e = rows.is_listed (live_of slots) id (has_live slots id e)

-- and what is in the list is live
pub live : (slots : List (Option Cell)) (id : ℕ) → IsIn (live_of slots) id → IsLive (links_of slots) id
live slots id h = listed_is_live slots id (rows.listed (live_of slots) id h)

-- ---- the links
pub linked : (s : Store) → IsStore s
    → AreLinked (vertices_of s) (live_of s.slots) (links_of s.slots).at (links_of s.slots).next
linked s k =
    let l = k.linked in
    record {
      back = λ x i y h m e.
          (let b = l.back x i y (live s.slots x h) m e in
          record { listed = listed s.slots y b.live; side = b.side; in_range = b.in_range; turned = b.turned });
      walls = λ x i h m e. l.walls x i (live s.slots x h) m e;
      apart = λ x y i j h g m n r. l.apart x y i j (live s.slots x h) (live s.slots y g) m n r;
    }

pub cells : (s : Store) → IsDelaunay (vertices_of s) (links_of s.slots)
    → AreCells (vertices_of s) (live_of s.slots) (links_of s.slots).at
cells s d = λ x h. d.cells x (live s.slots x h)

-- there is a cell: corner 0 has a kept one
first_listed : (s : Store) → IsStore s → (x : ℕ) × IsIn (live_of s.slots) x
first_listed s k =
    let z = k.kept_cells 0 (k.vertices.boxed.corner_in 0 (omega arith)) in
    (_, listed s.slots _ z.0)

pub listing : (s : Store) → IsStore s → IsDelaunay (vertices_of s) (links_of s.slots)
    → IsListing (vertices_of s) (live_of s.slots) (links_of s.slots).at
listing s k d =
    let z = first_listed s k in
    linked_law (vertices_of s) k.vertices.boxed (live_of s.slots) (links_of s.slots).at (links_of s.slots).next (linked s k)
    (cells s d) z.0 z.1
