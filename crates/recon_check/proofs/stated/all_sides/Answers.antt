use Rattle.std.proofs.Common.{ℕ, ◌+◌, ◌*◌, ◌∙◌, List, Vec, Global, length, map, ap, refl, sym, subst, arith}
use Rattle.std.proofs.lemmas.List.{with_items_is}
use Rattle.certificate.specs.declared.certificate.FlowRow.{FlowRow}
use Rattle.recon_check.specs.Lookups.{is_open_side, side_facet, AreSidesFound, IsNoted}
use Rattle.recon_check.proofs.Lookups.{found_missed, found_more}
use Rattle.recon_check.proofs.stated.all_sides.Goals as goal
use Rattle.recon_check.proofs.stated.all_sides.Goals.{in-Some, in_default}

pub loop-number-preserved : goal.loop-number-preserved
loop-number-preserved c =
    let slots = c.args.t.now.slots in
    let fixed = c.args.fixed.now in
    let keys : List (List ℕ) = map (λ (row : FlowRow). row.facet) c.args.rows.now in
    let n = c.loop-number.number in
    let limit = 4 * length fixed in
    let old = c.loop-number.sides.items in
    elim c.match-open_facet.branch [
      | in-Some w ↦
          subst (AreSidesFound slots fixed limit (n + 1) keys) (sym (ap (λ (v : Vec ℕ Global). v.items) w.sides-is ∙ with_items_is
          c.loop-number.sides w.note.new.numbers (w.note.ensures.count ∙ w.deref_mut.ensures.len)))
          (found_more limit n (is_open_side slots fixed) (side_facet slots) keys old c.loop-number.invariant n
          w.in-Some.facet w.note.new.numbers w.in-Some.ensures.open w.in-Some.ensures.facet
          (subst (λ (o : List ℕ). IsNoted keys w.in-Some.facet n o w.note.new.numbers) w.deref_mut.ensures.value
          w.note.ensures) refl (let l = c.loop-number-test.true in omega (arith, l)))
      | in_default w ↦
          subst (AreSidesFound slots fixed limit (n + 1) keys) (sym (ap (λ (v : Vec ℕ Global). v.items) w.sides-is))
          (found_missed limit n (is_open_side slots fixed) (side_facet slots) keys old c.loop-number.invariant
          w.in_default.ensures.none)
    ]
