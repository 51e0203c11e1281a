-- The lines of `join`. Tiles are counted from 0, in the order of the list.
--
--   too_long_tiles_line, too_long_tile_line tile   the lines for a list, and for the mesh of a tile, that are too long
--   tiles_error_line why         the line for the error of a list
--   tile_line_line tile at       the line for a line of a tile's mesh
--   tile_error_line tile why     the line for the error of a tile's mesh
--   open_line edge               the line for an edge that stays open
--   join_error_line why          the line for tiles that are not joined
--   joined_line tiles ..         the line for a mesh that was written
use Rattle.std.specs.Prelude.{ℕ, List, codes, Option, Some, None, ◌++◌, [], ◌∷◌}
use Rattle.line_text.specs.declared.refusal.LineRefusal.{LineRefusal}
use Rattle.line_text.specs.declared.refusal.LineRefusal.TheVariants as lines
use Rattle.mesh_edges.specs.declared.balance.UnbalancedEdge.{UnbalancedEdge}
use Rattle.mesh_join.specs.declared.join.Refusal.{Refusal}
use Rattle.mesh_join.specs.declared.join.Refusal.TheVariants as joins
use Rattle.mesh_ply.specs.declared.refusal.MeshRefusal.{MeshRefusal}
use Rattle.mesh_ply.specs.declared.refusal.MeshRefusal.TheVariants as meshes
use Rattle.command_run.specs.Lines.{labelled, number_line, text_line}

-- the line for a list that is longer than the limit
unfoldable pub too_long_tiles_line : List ℕ
too_long_tiles_line = codes "refused 19 too_long tiles\n"

-- the line for the mesh of a tile that is longer than the limit
abbrev pub too_long_tile_line : (tile : ℕ) → List ℕ
too_long_tile_line tile = number_line (codes "refused 19 too_long tile ") tile

-- the line for the error of a list; out of memory has none
abbrev pub tiles_error_line : LineRefusal → Option (List ℕ)
tiles_error_line (lines.BadLine line) = Some (number_line (codes "refused 37 tiles_line line ") line)
tiles_error_line (lines.Order line) = Some (number_line (codes "refused 37 tiles_line line ") line)
tiles_error_line lines.Cut = Some (text_line (codes "refused 38 tiles_cut"))
tiles_error_line lines.NoMemory = None

-- the line for a line of a tile's mesh
unfoldable pub tile_line_line : (tile at : ℕ) → List ℕ
tile_line_line tile at =
    labelled (codes "refused 39 tile_line tile ") tile ++ (labelled (codes " line ") at ++ (10 ∷ []))

-- the line for the error of a tile's mesh; out of memory has none
abbrev pub tile_error_line : (tile : ℕ) → MeshRefusal → Option (List ℕ)
tile_error_line tile (meshes.BadLine line) = Some (tile_line_line tile line)
tile_error_line tile meshes.MeshCut = Some (number_line (codes "refused 40 tile_cut tile ") tile)
tile_error_line tile meshes.NoMemory = None

-- the line for an edge that stays open, and how many faces have it in each direction
unfoldable pub open_line : UnbalancedEdge → List ℕ
open_line edge =
    labelled (codes "refused 43 open_join from ") edge.from
    ++ (labelled (codes " to ") edge.to
    ++ (labelled (codes " there ") edge.there ++ (labelled (codes " back ") edge.back ++ (10 ∷ []))))

-- the line for tiles that are not joined
abbrev pub join_error_line : Refusal → List ℕ
join_error_line (joins.Flat tile) = number_line (codes "refused 41 flat_tile tile ") tile
join_error_line joins.TooMany = text_line (codes "refused 42 too_many_places")
join_error_line (joins.Open edge) = open_line edge

-- `joined tiles T points N faces M moved E filled F`
unfoldable pub joined_line : (tiles points faces moved filled : ℕ) → List ℕ
joined_line tiles points faces moved filled =
    labelled (codes "joined tiles ") tiles
    ++ (labelled (codes " points ") points
    ++ (labelled (codes " faces ") faces
    ++ (labelled (codes " moved ") moved ++ (labelled (codes " filled ") filled ++ (10 ∷ [])))))
