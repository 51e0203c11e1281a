-- Stores that have all cells of a scene.
--
--   StoredCellsLaw     if a store has the Delaunay cells of its vertices, all inserted, its live cells are all cells of
--                      each scene with its points (`AreCellsOf`)
use Rattle.std.specs.Prelude.{ℕ, ◌≡◌, ◌<◌, ◌++◌, true, false, List, length, slice_index_or}
use Rattle.geo_sign.specs.Point.{Point}
use Rattle.geo_sign.specs.Vertices.{corners}
use Rattle.flow_net.specs.declared.votes.Settings.{Settings}
use Rattle.flow_net.specs.declared.votes.Sight.{Sight}
use Rattle.visibility.specs.Scenes.{scene_of}
use Rattle.tetra_store.specs.Delaunay.{IsDelaunay}
use Rattle.tetra_store.specs.Links.{links_of}
use Rattle.tetra_store.specs.Store.{vertices_of}
use Rattle.tetra_store.specs.Store.{Store, IsStore}
use Rattle.cell_net.specs.Counts.{AreCellsOf}

-- whatever scanners, sights and settings the scene has
abbrev pub StoredCellsLaw : Type 0
StoredCellsLaw =
    (s : Store) (points : List Point) → IsStore s → s.points ≡ corners ++ points → IsDelaunay (vertices_of s)
    (links_of s.slots) → ((u : ℕ) → u < length s.points → slice_index_or s.inserted u false ≡ true) →
    (scanners : List Point) (sights : List Sight) (settings : Settings) → AreCellsOf
    (scene_of points scanners sights settings) s.slots
