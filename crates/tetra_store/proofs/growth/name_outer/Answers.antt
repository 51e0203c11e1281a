-- The cells across a fan name those over it, facet after facet.
--
-- Behind i facets those across the first i name the new cells, and nothing else has changed (AreNamed). A facet with a
-- cell across has one side of that cell written (AreNamed_name), where two facets have different sides (once); one on a
-- wall has nothing to write (AreNamed_skip).
use Rattle.std.proofs.Common.{ℕ, ◌≡◌, ◌<◌, ◌+◌, length, Some, None, ap, sym, ◌∙◌, subst, arith, slice_index, slice_index_or}
use Rattle.std.proofs.lemmas.List.{get_or_default}
use Rattle.slab.specs.Slab.{Slab, slab_len}
use Rattle.geo_sign.specs.Tetrahedron.{facet_at}
use Rattle.tetra_store.specs.declared.link.Cell.{Cell}
use Rattle.tetra_store.specs.declared.fan.Facet.{Facet}
use Rattle.tetra_store.specs.Links.{links_of}
use Rattle.tetra_store.specs.Fan.{no_facet, fan_facet}
use Rattle.tetra_store.specs.Steps.{AreNamed, IsNaming}
use Rattle.tetra_store.proofs.Putting.{AreNamed_name, AreNamed_skip, outer_from}
use Rattle.tetra_store.proofs.growth.name_outer.Goals as goal
use Rattle.tetra_store.proofs.growth.name_outer.Goals.{in-Some, in_default}

pub loop-i-preserved : goal.loop-i-preserved
loop-i-preserved c =
    let fan = c.args.fan.now in
    let ids = c.args.ids.now in
    let i = c.loop-i.i in
    let lt : i < length fan = omega arith in
    elim c.match-fan-i.branch [
      | in-Some w ↦
          let is = outer_from fan i _ (Some w.in-Some.y) lt w.in-Some.is in
          let e : slice_index_or fan i w.index-fan-i.result ≡ slice_index_or fan i no_facet =
          get_or_default fan i w.index-fan-i.result no_facet lt in
          let m : i < length ids = omega (arith, c.requires.count) in
          let id_is : w.index-ids-i.result ≡ slice_index ids i =
          w.index-ids-i.is ∙ get_or_default ids i w.index-ids-i.result 0 m in
          let a = links_of c.args.cells.now.slots in
          let b = links_of w.name.new.cells.slots in
          let naming : IsNaming (links_of c.loop-i.cells.slots) b (fan_facet fan i) w.in-Some.y (slice_index ids i) =
          subst (λ (f : Facet). IsNaming (links_of c.loop-i.cells.slots) b (facet_at f.v) w.in-Some.y (slice_index ids i)) e
          (subst (λ (x : ℕ). IsNaming (links_of c.loop-i.cells.slots) b (facet_at (slice_index_or fan i w.index-fan-i.result).v)
          w.in-Some.y x) id_is w.name.ensures.naming) in
          record {
            named = subst (λ (s : Slab Cell). AreNamed a (links_of s.slots) fan ids (i + 1)) (sym w.cells-is)
                (AreNamed_name a (links_of c.loop-i.cells.slots) b fan ids i w.in-Some.y c.loop-i.invariant.named lt is
                c.requires.once naming);
            capacity = ap (λ (s : Slab Cell). s.capacity) w.cells-is ∙ (w.name.ensures.capacity ∙ c.loop-i.invariant.capacity);
            len = ap (λ (s : Slab Cell). slab_len s) w.cells-is ∙ (w.name.ensures.len ∙ c.loop-i.invariant.len);
          }
      | in_default w ↦
          let none = outer_from fan i _ None lt w.in_default.is in
          let a = links_of c.args.cells.now.slots in
          record {
            named =
                subst (λ (s : Slab Cell). AreNamed a (links_of s.slots) fan ids (i + 1)) (sym w.cells-is)
                (AreNamed_skip a (links_of c.loop-i.cells.slots) fan ids i c.loop-i.invariant.named none);
            capacity = ap (λ (s : Slab Cell). s.capacity) w.cells-is ∙ c.loop-i.invariant.capacity;
            len = ap (λ (s : Slab Cell). slab_len s) w.cells-is ∙ c.loop-i.invariant.len;
          }
    ]
