-- Linked cells that are Delaunay.
use Rattle.std.specs.Prelude.{ℕ}
use Rattle.geo_sign.specs.Vertices.{Vertices}
use Rattle.geo_sign.specs.Cells.{IsCell}
use Rattle.geo_sign.specs.Writings.{IsVertexOf}
use Rattle.tetra_store.specs.Links.{Links, IsLive}

-- a live cell has these four vertices
pub record HasCell (links : Links) (a b c d : ℕ) : Type 0 where
  pub cell : ℕ
  pub live : IsLive links cell
  pub has_a : IsVertexOf (links.at cell) a
  pub has_b : IsVertexOf (links.at cell) b
  pub has_c : IsVertexOf (links.at cell) c
  pub has_d : IsVertexOf (links.at cell) d

-- the live cells are exactly the cells of the inserted vertices: each live one is a cell as it is written, and the four
-- vertices of each cell are those of a live one
pub record IsDelaunay (v : Vertices) (links : Links) : Type 0 where
  pub cells : (id : ℕ) → IsLive links id → IsCell v (links.at id).a (links.at id).b (links.at id).c (links.at id).d
  pub all : (a b c d : ℕ) → IsCell v a b c d → HasCell links a b c d
