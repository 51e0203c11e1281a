-- Labels in the order of a list of all live cells, put at the numbers that cells have in the store, are one test of live cells in two
-- forms (agree). The cells inside are then the same, so one mesh is cut by both (cut_mesh), and what is said over each scene of the one is
-- said over each scene of the other (over_scenes).
use Rattle.std.proofs.Common.{ℕ, ◌≡◌, ◌<◌, sym, ◌∙◌, Bool, List, Option, length, get_or, arith}
use Rattle.std.proofs.lemmas.Bool.{eqb-true, eq-eqb}
use Rattle.std.proofs.lemmas.List.Sums.{passes_at_first}
use Rattle.flow_net.specs.Nets.{flag_at}
use Rattle.geo_sign.specs.Point.{Point}
use Rattle.geo_sign.specs.Vertices.{Vertices}
use Rattle.mesh.specs.declared.mesh.Mesh.{Mesh}
use Rattle.visibility.specs.Scenes.{Scene}
use Rattle.visibility.specs.Complexes.{Complex}
use Rattle.visibility.proofs.Indices.{first_within}
use Rattle.tetra_store.specs.declared.link.Cell.{Cell}
use Rattle.tetra_store.specs.Links.{links_of, IsLinked, IsLive}
use Rattle.surface.specs.Labelled.{AreAllLive, AreLabelsOver, IsCutFacet, IsCutMesh, NoneHasCorner, OverScenes, listed_label}

module _ (slots : List (Option Cell)) (ids : List ℕ) (labels flags : List Bool) (all : AreAllLive slots ids)
    (each : (k : ℕ) → k < length ids → flag_at flags (get_or ids k 0) ≡ flag_at labels k) where
  -- the index of a cell is within the list, and its number stands there
  pub agree : (id : ℕ) → IsLive (links_of slots) id → flag_at flags id ≡ listed_label ids labels id
  agree id live = grind (arith, first_within, eq-eqb, eqb-true, passes_at_first)

  pub none_has_corner : NoneHasCorner slots (listed_label ids labels) → NoneHasCorner slots (flag_at flags)
  none_has_corner none id live inside = none id live (sym (agree id live) ∙ inside)

  -- the same scenes
  over : (s : Scene) (rising : Complex) (test : List ℕ → Bool) → AreLabelsOver s rising slots (listed_label ids labels) test
      → AreLabelsOver s rising slots (flag_at flags) test
  over s rising test labelled = grind (arith, agree)

  pub over_scenes : (claim : Scene → Complex → (List ℕ → Bool) → Type 0) → OverScenes slots (flag_at flags) claim
      → OverScenes slots (listed_label ids labels) claim
  over_scenes claim so scene rising test labelled = so scene rising test (over scene rising test labelled)

  -- the same facets, as the neighbor of a live cell is live
  module _ (v : Vertices) (linked : IsLinked v (links_of slots)) where
    listed_cut : (f : List ℕ) → IsCutFacet slots (flag_at flags) f → IsCutFacet slots (listed_label ids labels) f
    listed_cut f c = record {
      own = c.own;
      side = c.side;
      other = c.other;
      live = c.live;
      in_range = c.in_range;
      across = c.across;
      is_outside = sym (agree c.own c.live) ∙ c.is_outside;
      is_inside = sym (agree c.other (linked.back c.own c.side c.other c.live c.in_range c.across).live) ∙ c.is_inside;
      facet_is = c.facet_is;
    }

    numbered_cut : (f : List ℕ) → IsCutFacet slots (listed_label ids labels) f → IsCutFacet slots (flag_at flags) f
    numbered_cut f c = record {
      own = c.own;
      side = c.side;
      other = c.other;
      live = c.live;
      in_range = c.in_range;
      across = c.across;
      is_outside = agree c.own c.live ∙ c.is_outside;
      is_inside = agree c.other (linked.back c.own c.side c.other c.live c.in_range c.across).live ∙ c.is_inside;
      facet_is = c.facet_is;
    }

    pub cut_mesh : (points : List Point) (mesh : Mesh) → IsCutMesh points slots (flag_at flags) mesh
        → IsCutMesh points slots (listed_label ids labels) mesh
    cut_mesh points mesh cut = grind (arith, listed_cut, numbered_cut)
