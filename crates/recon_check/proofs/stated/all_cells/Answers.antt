use Rattle.std.proofs.Common.{ℕ, ◌+◌, ◌∙◌, List, Vec, Global, map, ap, refl, sym, subst}
use Rattle.std.proofs.lemmas.List.{with_items_is}
use Rattle.geo_sign.specs.Tetrahedron.{Tetrahedron}
use Rattle.tetra_store.specs.Links.{links_of, IsLive}
use Rattle.cell_net.specs.CellRows.{risen, row_from}
use Rattle.cell_net.specs.Counts.{row_of}
use Rattle.recon_check.specs.Lookups.{AreCellsFound, IsNoted}
use Rattle.recon_check.proofs.Lookups.{found_missed, found_more}
use Rattle.recon_check.proofs.stated.all_cells.Goals as goal
use Rattle.recon_check.proofs.stated.all_cells.Goals.{in-Some, in_default}

pub loop-number-preserved : goal.loop-number-preserved
loop-number-preserved g c =
    let slots = c.args.t.now.slots in
    let keys : List (List ℕ) = map g.R.Row.key c.args.rows.now in
    let n = c.loop-number.number in
    let limit = c.args.limit in
    let old = c.loop-number.cells.items in
    elim c.match-id_at.branch [
      | in-Some w ↦
          subst (AreCellsFound slots limit (n + 1) keys) (sym (ap (λ (v : Vec ℕ Global). v.items) w.cells-is ∙ with_items_is
          c.loop-number.cells w.note.new.numbers (w.note.ensures.count ∙ w.deref_mut.ensures.len)))
          (found_more limit n (links_of slots).is_live (row_of slots) keys old c.loop-number.invariant n w.cell_row.result
          w.note.new.numbers (subst (IsLive (links_of slots)) w.in-Some.ensures.value w.in-Some.ensures.live)
          (w.cell_row.ensures ∙ ap (λ (x : Tetrahedron). row_from (risen x)) w.vertices.ensures
          ∙ ap (row_of slots) w.in-Some.ensures.value)
          (subst (λ (o : List ℕ). IsNoted keys w.cell_row.result n o w.note.new.numbers) w.deref_mut.ensures.value
          w.note.ensures) refl c.loop-number-test.true)
      | in_default w ↦
          subst (AreCellsFound slots limit (n + 1) keys) (sym (ap (λ (v : Vec ℕ Global). v.items) w.cells-is))
          (found_missed limit n (links_of slots).is_live (row_of slots) keys old c.loop-number.invariant w.in_default.ensures.none)
    ]
