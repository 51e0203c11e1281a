-- The counts of a store are those of a scene of its points. They do not depend on the order of the sights, since a sum does
-- not. The tests look at nothing but where vertices are, so they say the same of the store's vertices and of all vertices of
-- the points. And no count depends on how a facet or a cell is written (`facet_count_law`, `cell_count_law` of cell_net), so
-- those of the cells as the store has them are those of facets from any vertex on and of rows.
use Rattle.std.proofs.Common.{ℕ, ◌<◌, ◌≤◌, ◌+◌, ◌^◌, ◌≡◌, refl, sym, ap, ◌∙◌, arith, Bool, false, cond, ◌||◌, List}
use Rattle.std.proofs.Common.{◌++◌, All, length, slice_index_or}
use mathlib.Core.Path.{fun_ext}
use Rattle.std.specs.List.{list_any}
use Rattle.std.specs.List.Sorted.{IsPermutation}
use Rattle.std.proofs.lemmas.List.Elements.{All-weaker}
use Rattle.std.proofs.lemmas.List.Sorted.{sum_by-IsPermutation}
use Rattle.geo_sign.specs.declared.point.TheConstants.{CORNERS}
use Rattle.geo_sign.specs.Boxes.{inserted_vertices}
use Rattle.geo_sign.specs.Point.{Point}
use Rattle.geo_sign.specs.Rational.{RationalPoint, displaced}
use Rattle.geo_sign.specs.Sights.{is_crossed, is_behind, is_cell_of}
use Rattle.geo_sign.specs.Tetrahedron.{Tetrahedron, DirectedFacet, facet_of}
use Rattle.geo_sign.specs.Tie.{height}
use Rattle.geo_sign.specs.Vertices.{boxed_vertices}
use Rattle.geo_sign.specs.Vertices.{Vertices, corners, point_of}
use Rattle.geo_sign.proofs.Corners.{vertex_count}
use Rattle.flow_net.specs.Nets.{flag_at}
use Rattle.flow_net.specs.declared.votes.Sight.{Sight}
use Rattle.flow_net.specs.Weights.{weight_where}
use Rattle.visibility.specs.SceneViews.{view_of, IsSightOf, IsSound}
use Rattle.visibility.specs.Scenes as scenes
use Rattle.visibility.specs.Scenes.{scanner_point}
use Rattle.visibility.specs.declared.scene.Scene.{Scene}
use Rattle.visibility.specs.Votes.{has_corner, crossings}
use Rattle.tetra_store.specs.Links.{links_of, IsLive}
use Rattle.tetra_store.specs.Store.{Store, IsStore, vertices_at, vertices_of}
use Rattle.cell_net.specs.Counts.{AreCellsOf, AreCrossingCounts, AreBehind, AreFixed, AreCountsOf}
use Rattle.cell_net.proofs.CellCounts.{facet_count_law, cell_count_law}
use Rattle.cell_net.proofs.Stored.{stored_cells_law}
use Rattle.solution.specs.Counts.{HasCellsOf, IsInRange, added_by, sum_where, AreCounted}
use Rattle.solution.proofs.Flags.{holds}
use Rattle.solution.proofs.Tallies.{sum_is_weight}

-- ---- the order of the sights
pub counted_anyhow : (s : Store) (scanners : List Point) (sights walked : List Sight) (crossed behind : List ℕ) →
    IsPermutation sights walked → AreCounted s scanners walked crossed behind → AreCounted s scanners sights crossed behind
counted_anyhow s scanners sights walked crossed behind p h =
    record {
      crossed_fits = h.crossed_fits;
      behind_fits = h.behind_fits;
      facets =
          λ id k l m. h.facets id k l m
          ∙ same (λ (x : Sight).
          is_crossed (vertices_of s) x.vertex (scanner_point scanners x.scanner) (facet_of ((links_of s.slots).at id) k));
      cells =
          λ id l. h.cells id l
          ∙ same
          (λ (x : Sight). is_behind (vertices_of s) x.vertex (scanner_point scanners x.scanner) ((links_of s.slots).at id));
    }
  where
    same : (test : Sight → Bool) → sum_where test walked ≡ sum_where test sights
    same test = sum_by-IsPermutation (λ (x : Sight). cond (test x) (added_by x) 0) sights walked p

-- ---- the vertices
abbrev counted : List Point → List Bool → ℕ → Vertices
counted points inserted n = record {
  at = point_of points;
  high = λ u. height n u (point_of points u);
  count = n;
  is_in = λ u. slice_index_or inserted u false;
}

seen : (s : Store) (points : List Point) → s.points ≡ corners ++ points → vertices_of s ≡ inserted_vertices points s.inserted
seen s points e = ap (λ (ps : List Point). vertices_at ps s.inserted) e ∙ ap (counted points s.inserted) (vertex_count points)

crossed_in : (points : List Point) (flags : List Bool) (p : ℕ) (q : RationalPoint) (f : DirectedFacet) →
    is_crossed (inserted_vertices points flags) p q f ≡ is_crossed (boxed_vertices points) p q f
unfolding is_crossed
crossed_in points flags p q f = refl

behind_in : (points : List Point) (flags : List Bool) (p : ℕ) (q : RationalPoint) (t : Tetrahedron) →
    is_behind (inserted_vertices points flags) p q t ≡ is_behind (boxed_vertices points) p q t
unfolding is_behind
behind_in points flags p q t = refl

cell_in : (points : List Point) (flags : List Bool) (q : RationalPoint) (t : Tetrahedron) →
    is_cell_of (inserted_vertices points flags) q t ≡ is_cell_of (boxed_vertices points) q t
unfolding is_cell_of
cell_in points flags q t = refl

-- ---- what the network is made of
module _ (s : Store) (given : Scene) (store : IsStore s) (cells : HasCellsOf s given) (sound : IsSound given) where
  abbrev points : List Point
  points = given.points.now

  abbrev scanners : List Point
  scanners = given.scanners.now

  abbrev sights : List Sight
  sights = given.sights.now

  abbrev scene : scenes.Scene
  scene = view_of given

  e : s.points ≡ corners ++ points
  e = cells.points

  abbrev at : ℕ → Tetrahedron
  at = (links_of s.slots).at

  cells_are : AreCellsOf scene s.slots
  cells_are = stored_cells_law s points store e cells.delaunay cells.inserted scanners sights given.settings

  pub sights_in_range : All (IsInRange (vertices_of s) scanners) sights
  sights_in_range =
      All-weaker (IsSightOf points scanners) (IsInRange (vertices_of s) scanners) in_range sights sound.sights
    where
      in_range : (sight : Sight) → IsSightOf points scanners sight → IsInRange (vertices_of s) scanners sight
      in_range sight h =
          let vertex : sight.vertex < length s.points = omega (arith, h.vertex, ap length e, vertex_count points) in
          record {
            inserted = (vertex, cells.inserted sight.vertex vertex);
            data_vertex = h.data_vertex;
            scanner = h.scanner;
          }

  -- tests of the store's vertices and of all vertices of the points
  crossed_is : (p : ℕ) (q : RationalPoint) (f : DirectedFacet) →
      is_crossed (vertices_of s) p q f ≡ is_crossed (boxed_vertices points) p q f
  crossed_is p q f = ap (λ (w : Vertices). is_crossed w p q f) (seen s points e) ∙ crossed_in points s.inserted p q f

  behind_is : (p : ℕ) (q : RationalPoint) (t : Tetrahedron) →
      is_behind (vertices_of s) p q t ≡ is_behind (boxed_vertices points) p q t
  behind_is p q t = ap (λ (w : Vertices). is_behind w p q t) (seen s points e) ∙ behind_in points s.inserted p q t

  cell_of_is : (q : RationalPoint) (t : Tetrahedron) → is_cell_of (vertices_of s) q t ≡ is_cell_of (boxed_vertices points) q t
  cell_of_is q t = ap (λ (w : Vertices). is_cell_of w q t) (seen s points e) ∙ cell_in points s.inserted q t

  crossings_are : (crossed behind : List ℕ) → AreCounted s scanners sights crossed behind → AreCrossingCounts scene s.slots crossed
  unfolding crossings
  crossings_are crossed behind h =
      record {
        count = h.crossed_fits;
        at = λ id k f live l r.
            h.facets id k live l
            ∙ (sum_is_weight _ sights
            ∙ (ap (λ (test : Sight → Bool). weight_where test sights)
            (fun_ext (λ (x : Sight). crossed_is x.vertex (scanner_point scanners x.scanner) (facet_of (at id) k)))
            ∙ facet_count_law scene (facet_of (at id) k) f r));
      }

  behind_are : (crossed behind : List ℕ) → AreCounted s scanners sights crossed behind → AreBehind scene s.slots behind
  behind_are crossed behind h =
      record {
        count = h.behind_fits;
        at = λ id live.
            h.cells id live
            ∙ (sum_is_weight _ sights
            ∙ (ap (λ (test : Sight → Bool). weight_where test sights)
            (fun_ext (λ (x : Sight). behind_is x.vertex (scanner_point scanners x.scanner) (at id)))
            ∙ sym (cell_count_law scene s.slots cells_are id live).before));
      }

  fixed_are : (flags : List Bool) → length s.slots ≤ length flags →
      ((id : ℕ) → IsLive (links_of s.slots) id → flag_at flags id ≡ (has_corner (at id) || holds s scanners id)) →
      AreFixed scene s.slots flags
  fixed_are flags l h =
      record {
        count = l;
        at = λ id live.
            h id live
            ∙ (ap (λ (test : Point → Bool). has_corner (at id) || list_any test scanners)
            (fun_ext (λ (q : Point). cell_of_is (displaced q) (at id)))
            ∙ sym (cell_count_law scene s.slots cells_are id live).fixed);
      }

  pub all_asked : (crossed behind : List ℕ) (flags : List Bool) → AreCounted s scanners sights crossed behind
      → length s.slots ≤ length flags
      → ((id : ℕ) → IsLive (links_of s.slots) id → flag_at flags id ≡ (has_corner (at id) || holds s scanners id))
      → AreCountsOf scene s.slots crossed behind flags
  all_asked crossed behind flags h l f =
      record {
        cells = cells_are;
        few = count;
        few_sights = sound.few_sights;
        crossings = crossings_are crossed behind h;
        before = behind_are crossed behind h;
        flags = fixed_are flags l f;
      }
    where
      count : CORNERS + length points ≤ 2 ^ 32
      count = let n = store.vertices.few in let m = ap length e in let k = vertex_count points in omega (arith, n, m, k)
