-- The laws of cells, of one vertex more and of linked cells, as specs/ states them.
-- Stands on: the lemmas of Wrap to LinkedCells, with Heights, Box and Goal for what those suppose.
use Rattle.std.proofs.Common.{ℕ, ◌≡◌, List, Bool, true, sym, ◌∙◌, pos, true≢false, Option, inl, inr, ⊎_elim}
use Rattle.std.proofs.lemmas.Int.{by_lt_z}
use Rattle.geo_sign.specs.Rational.{displaced, RationalPoint}
use Rattle.geo_sign.specs.Cells.{IsCell}
use Rattle.geo_sign.specs.Tetrahedron.{Tetrahedron}
use Rattle.geo_sign.specs.Vertices.{Vertices}
use Rattle.geo_sign.specs.Boxes.{IsBoxed, IsInConflict, IsNew}
use Rattle.geo_sign.specs.Places.{IsInBox, IsLyingIn}
use Rattle.cell_laws.specs.CellLaws.{AcrossLaw, EnvelopeLaw, GenericLaw, OneLaw}
use Rattle.cell_laws.specs.InsertionLaws.{EdgeLaw, FanLaw, FloodLaw, StayLaw, VertexLaw}
use Rattle.cell_laws.specs.LinkLaws.{CavityLaw, FoundLaw, LinkedLaw, RimLaw}
use Rattle.cell_laws.specs.Links.{AreLinked, IsFlooded}
use Rattle.cell_laws.specs.Lists.{AreCells, IsIn, IsListing}
use Rattle.geo_sign.specs.Writings.{IsVertexOf}
use Rattle.geo_sign.proofs.Rewritings.{power_at}
use Rattle.cell_laws.proofs.Box.{data_inner, outer_wall}
use Rattle.cell_laws.proofs.Closed.{outer_none}
use Rattle.cell_laws.proofs.Cover.{each_place}
use Rattle.cell_laws.proofs.Edges.{fan_edges}
use Rattle.cell_laws.proofs.Fan.{cell_fan, fan_before, fan_cell, fan_next, fan_once, not_in, stays_cell, was_cell}
use Rattle.cell_laws.proofs.Flood.{above, flood, holds_one}
use Rattle.cell_laws.proofs.Goal.{goal, wall_outer}
use Rattle.cell_laws.proofs.Heights.{tied_convex, tied_generic}
use Rattle.cell_laws.proofs.Inside.{box_inside}
use Rattle.cell_laws.proofs.LinkedCells.{fan_link, flooded_closed, link_fan, linked_listing}
use Rattle.cell_laws.proofs.Regions.{IsInner, IsOuter}
use Rattle.cell_laws.proofs.Rim.{fan_some, fan_spin, vertex_kept}
use Rattle.cell_laws.proofs.Wrap.{across, one_over}

pub generic_law : GenericLaw
generic_law v x a b c d u ha hb hc hd hu o e = tied_generic v x a b c d u ha hb hc hd hu o e

pub envelope_law : EnvelopeLaw
envelope_law v t r q ht hr l = above v t r q ht hr l

pub across_law : AcrossLaw
across_law v x a b c d k =
    ⊎_elim (λ (o : IsOuter v a b c). inl (outer_wall v x a b c d k o, λ e z. outer_none v a b c e o z))
    (λ (z : (e : ℕ) × IsCell v a c b e).
    inr (
      λ w. outer_none v a b c z.0 (wall_outer v x a b c d k w) z.1,
      record {
        vertex = z.0;
        cell = z.1;
        one = λ e y. one_over v (tied_generic v x) a c b e z.0 y z.1;
      },
    ))
    (across v a b c d k)

-- where there is a cell at all
pub placed :
    (v : Vertices) → IsBoxed v → (a b c d : ℕ) → IsCell v a b c d → (q : RationalPoint) → IsInBox q →
    (t : Tetrahedron) × IsCell v t.a t.b t.c t.d × IsLyingIn v t q
placed v x a b c d k q h = each_place v (tied_generic v x) a b c d k q (λ i j l m n o. box_inside v x q h i j l o)

pub one_law : OneLaw
one_law v x t r q ht hr l k = holds_one v (tied_generic v x) t r q ht hr l k

-- ---- one vertex more
pub fan_law : FanLaw
fan_law v x p n =
    let g = tied_generic v x in
    let i : IsInner v p = data_inner v x p n.above n.below in
    record {
      before = fan_before v p g i;
      cells = λ a b c. (fan_cell v p g i n.below a b c, cell_fan v p g i n.out n.below a b c);
      turned = fan_spin v p;
      next = fan_next v p g i n.out n.below;
      once = fan_once v p g i n.below;
      some = fan_some v g p;
    }

pub stay_law : StayLaw
stay_law v p a b c d h na nb nc nd = (λ k. was_cell v p h a b c d k na nb nc nd, λ k. stays_cell v p a b c d k.0 k.1)

pub vertex_law : VertexLaw
vertex_law v x p n a b c d k h u w =
    vertex_kept v (tied_generic v x) (tied_convex v x) p (data_inner v x p n.above n.below) n.out n.below a b c d k h u w

pub flood_law : FloodLaw
flood_law v x p n live cell list marked closed y i m c z j d =
    flood v (tied_generic v x) p (displaced (v.at p)) (goal v x p n.above n.below) live cell list marked closed y i m c z j d

pub edge_law : EdgeLaw
edge_law v x p n m f h = fan_edges v p (fan_law v x p n) m f h

pub linked_law : LinkedLaw
linked_law v x live cell next l cells y i = linked_listing v x (tied_generic v x) live cell next l cells y i

-- a flood over the links from one cell in conflict, which goes on at each neighbor in conflict, finds all cells in conflict
flooded :
    (v : Vertices) → IsBoxed v → (p : ℕ) → IsNew v p → (live : List ℕ) (cell : ℕ → Tetrahedron) (next : ℕ → ℕ → Option ℕ) →
    AreLinked v live cell next → AreCells v live cell → (marked : ℕ → Bool) → IsFlooded v p live cell next marked →
    (x : ℕ) → IsIn live x → marked x ≡ true → IsInConflict v p (cell x) → (y : ℕ) → IsIn live y → IsInConflict v p (cell y) →
    marked y ≡ true
flooded v x p n live cell next l cells marked f y i m c z j d =
    let g = tied_generic v x in
    flood v g p (displaced (v.at p)) (goal v x p n.above n.below) live cell (linked_listing v x g live cell next l cells y i)
    marked (flooded_closed v x p live cell next l cells marked f) y i m c z j d

pub found_law : FoundLaw
found_law v b p n t c l =
    by_lt_z (power_at v t p) (pos 0) (λ h. h)
    (λ h. absurd (not_own (tied_convex v b t p c.has_a.0 c.has_b.0 c.has_c.0 c.has_d.0 n.below c.positive l h)))
  where
    not_own : IsVertexOf t p → ⊥
    not_own (inl e) = not_in v p t.a n.out c.has_a (sym e)
    not_own (inr (inl e)) = not_in v p t.b n.out c.has_b (sym e)
    not_own (inr (inr (inl e))) = not_in v p t.c n.out c.has_c (sym e)
    not_own (inr (inr (inr e))) = not_in v p t.d n.out c.has_d (sym e)

pub cavity_law : CavityLaw
cavity_law v b p n live cell next l cells marked f conflict x i m =
    record {
      taken = conflict;
      kept = λ y j e.
          by_lt_z (power_at v (cell y) p) (pos 0)
          (λ h. absurd
          (true≢false (sym (flooded v b p n live cell next l cells marked f x i m (conflict x i m) y j h) ∙ e))) (λ h. h);
    }

pub rim_law : RimLaw
rim_law v x p live cell next l cells y i =
    let g = tied_generic v x in
    let list : IsListing v live cell = linked_listing v x g live cell next l cells y i in
    record { fan = link_fan v x g p live cell next l cells; all = fan_link v p live cell next l list.full }
