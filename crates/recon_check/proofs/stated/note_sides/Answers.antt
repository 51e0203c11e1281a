use Rattle.std.proofs.Common.{ℕ, ◌*◌, List, length, map}
use Rattle.certificate.specs.declared.certificate.FlowRow.{FlowRow}
use Rattle.recon_check.specs.Lookups.{is_open_side, side_facet}
use Rattle.recon_check.proofs.Lookups.{found_some}
use Rattle.recon_check.proofs.stated.note_sides.Goals as goal
use Rattle.recon_check.proofs.stated.note_sides.Goals.{in-Some, in_default}

pub loop-side-preserved : goal.loop-side-preserved
loop-side-preserved c =
    let slots = c.args.t.now.slots in
    let fixed = c.args.fixed.now in
    let keys : List (List ℕ) = map (λ (row : FlowRow). row.facet) c.args.rows.now in
    elim c.match-open_facet.branch [
      | in-Some w ↦
          rw w.sides-is
          (found_some (4 * length fixed) 0 (is_open_side slots fixed) (side_facet slots) keys _ c.loop-side.invariant _ _ _
          w.in-Some.ensures.open w.in-Some.ensures.facet w.note.ensures)
      | in_default w ↦ rw w.sides-is c.loop-side.invariant
    ]
