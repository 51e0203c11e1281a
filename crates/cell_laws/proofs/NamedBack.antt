-- Neighbors name each other across the same facet.
-- Stands on: LinkedCells and Laws (no neighbor exactly across a wall).
use Rattle.std.proofs.Common.{ℕ, ◌<◌, ◌≡◌, List, refl, ap, sym, ◌∙◌, Option, Some, None}
use Rattle.geo_sign.specs.Tetrahedron.{Tetrahedron, tetrahedron, facet_of, IsRotated, IsTurned}
use Rattle.geo_sign.specs.Vertices.{Vertices}
use Rattle.geo_sign.specs.Boxes.{IsBoxed}
use Rattle.cell_laws.specs.Links.{AreLinked, IsBackAt}
use Rattle.cell_laws.specs.Lists.{IsIn, AreCells}
use Rattle.geo_sign.proofs.Rewritings.{same_cell}
use Rattle.geo_sign.proofs.Rotations.{turned_back, turned_turned}
use Rattle.cell_laws.proofs.Closed.{outer_none}
use Rattle.cell_laws.proofs.Goal.{wall_outer}
use Rattle.cell_laws.proofs.LinkedCells.{back_same, facet_same, from_facet}

-- y has the facet turned, and x across it
pub record IsNamedBack (cell : ℕ → Tetrahedron) (next : ℕ → ℕ → Option ℕ) (x k y : ℕ) : Type 0 where
  pub side : ℕ
  pub in_range : side < 4
  pub turned : IsTurned (facet_of (cell x) k) (facet_of (cell y) side)
  pub named : next y side ≡ Some x

pub back_law :
    (v : Vertices) → IsBoxed v → (live : List ℕ) (cell : ℕ → Tetrahedron) (next : ℕ → ℕ → Option ℕ) →
    AreLinked v live cell next → AreCells v live cell → (x k y : ℕ) → IsIn live x → k < 4 → next x k ≡ Some y →
    IsNamedBack cell next x k y
back_law v b live cell next l cells x k y i m e =
    record { side = r.side; in_range = r.in_range; turned = r.turned; named = by (next y r.side) refl }
  where
    r : IsBackAt live cell (facet_of (cell x) k) y
    r = l.back x k y i m e

    by : (o : Option ℕ) → next y r.side ≡ o → next y r.side ≡ Some x
    by None f =
        let t = from_facet (cell y) r.side in
        let o =
        wall_outer v b t.a t.b t.c t.d (same_cell v (cell y) t (facet_same (cell y) r.side) (cells y r.listed))
        (l.walls y r.side r.listed r.in_range f) in
        let z =
        back_same live cell (facet_of (cell y) r.side) x
        (record {
          listed = i;
          side = k;
          in_range = m;
          turned = turned_back (facet_of (cell x) k) (facet_of (cell y) r.side) r.turned;
        }) in
        absurd (outer_none v t.a t.b t.c z.0 o (same_cell v (cell x) (tetrahedron t.a t.c t.b z.0) z.1 (cells x i)))
    by (Some w) f =
        let s : IsBackAt live cell (facet_of (cell y) r.side) w = l.back y r.side w r.listed r.in_range f in
        let q : IsRotated (facet_of (cell x) k) (facet_of (cell w) s.side) =
        turned_turned (facet_of (cell x) k) (facet_of (cell y) r.side) (facet_of (cell w) s.side) r.turned s.turned in
        let same : x ≡ w = l.apart x w k s.side i s.listed m s.in_range q in
        f ∙ ap Some (sym same)
