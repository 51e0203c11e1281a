-- The next row, or the end, or the first refusal, for a reader that keeps where it is.
--
-- First come the elements without rows left, which change nothing of what is still to come (`same` of next_element). Behind
-- the last element there is only the end, whole or with bytes left over. Else the row is the first of what is left
-- (is_next): its fields were read, and what is left is behind them (row_read), or one of them was refused, and then that is
-- the row's refusal, at its place (row_refused).
use Rattle.std.proofs.Common.{◌∙◌, sym, ap, refl, arith, length, Option, subst}
use Rattle.ply_rows.specs.Rests.{rest_at}
use Rattle.ply_rows.specs.Readers.{Reader, AreRowFields}
use Rattle.ply_rows.proofs.ElementLemmas.{all_passed, row_at}
use Rattle.ply_rows.proofs.NextLemmas.{IsNext, is_next, row_read, refused_row, row_refused, row_fits}
use Rattle.ply_rows.proofs.FitLemmas.{row_ends_inside, ends_alike}
use Rattle.ply_rows.specs.declared.place.RowAt.{RowAt}
use Rattle.ply_rows.proofs.rows.Rows.next_row.Goals as goal
use Rattle.ply_rows.proofs.rows.Rows.next_row.Goals.{in-Ok, in-Err}

pub returns-then-element-elements : goal.returns-then-element-elements
returns-then-element-elements c =
    let over =
    ap (λ (r : Reader). r.left) (sym c.self.view_is)
    ∙ sym (c.next_element-element.ensures.same (rest_at c.self.inside.head.now.kind c.self.inside.body.now c.self.inside.place))
    ∙ all_passed c.self.inside.head.now.elements c.next_element-element.result.0 c.next_element-element.result.1
    (rest_at c.self.inside.head.now.kind c.self.inside.body.now c.self.inside.place)
    (omega (arith, ap length c.as_slice-elements.ensures)) in
    elim c.match-end_of_rows.branch [
      | in-Ok w ↦
          rw w.result-is record { next = (over ∙ w.in-Ok.ensures.ends, refl, c.clear.ensures.items); row = tt; inside = tt }
      | in-Err w ↦ rw w.result-is record {
        next =
            refused_row w.in-Err.why c.clear.new.self.items c.args.self.now (over ∙ w.in-Err.ensures.ends)
            c.clear.ensures.items;
        row = tt;
        inside =
            ends_alike (Unit {0}) (Option RowAt) c.self.inside.body.now c.args.self.now.body w.in-Err.why
            (ap (λ (r : Reader). r.body) c.self.view_is) w.in-Err.ensures.inside;
      }
    ]

pub overflow_add-self : goal.overflow_add-self
overflow_add-self c = omega (arith, c.next_element-element.ensures.room, ap length c.as_slice-elements.ensures)

pub returns-in-Ok-read_fields : goal.returns-in-Ok-read_fields
returns-in-Ok-read_fields c =
    let next : IsNext c.self.inside.head.now.elements c.next_element-element.result.0 c.next_element-element.result.1
    c.as_slice-properties.result.now =
    is_next c.self.inside.head.now.elements c.as_slice-elements.result.now c.next_element-element.result.0
    c.next_element-element.result.1 c.index-elements-element.result c.as_slice-properties.result.now
    c.as_slice-elements.ensures c.next_element-element.ensures.most c.if-element-elements.false c.index-elements-element.is
    c.next_element-element.ensures.row c.next_element-element.ensures.properties c.as_slice-properties.ensures in
    record {
      next = (
        row_read c.self.inside.head.now.elements c.next_element-element.result.0 c.next_element-element.result.1
            c.as_slice-properties.result.now (rest_at c.self.inside.head.now.kind c.self.inside.body.now c.self.inside.place)
            (rest_at c.self.inside.head.now.kind c.self.inside.body.now c.in-Ok-read_fields.place) c.read_fields.new.out.items
            c.args.self.now.left
            next (c.next_element-element.ensures.same
            (rest_at c.self.inside.head.now.kind c.self.inside.body.now c.self.inside.place)
            ∙ ap (λ (r : Reader). r.left) c.self.view_is) c.in-Ok-read_fields.ensures.fields,
        ap (λ (r : Reader). r.body) c.self.view_is,
        ap (λ (r : Reader). r.head) c.self.view_is,
      );
      row =
          subst (λ (r : Reader).
          AreRowFields r.head r.body (row_at c.next_element-element.result.0 c.next_element-element.result.1)
          c.read_fields.new.out.items) c.self.view_is
          (row_fits c.self.inside.head.now c.self.inside.body.now c.next_element-element.result.0
          c.next_element-element.result.1 c.as_slice-properties.result.now c.read_fields.new.out.items next
          c.in-Ok-read_fields.ensures.fits);
      inside = tt;
    }

pub returns-in-Err-read_fields : goal.returns-in-Err-read_fields
returns-in-Err-read_fields c =
    let next : IsNext c.self.inside.head.now.elements c.next_element-element.result.0 c.next_element-element.result.1
    c.as_slice-properties.result.now =
    is_next c.self.inside.head.now.elements c.as_slice-elements.result.now c.next_element-element.result.0
    c.next_element-element.result.1 c.index-elements-element.result c.as_slice-properties.result.now
    c.as_slice-elements.ensures c.next_element-element.ensures.most c.if-element-elements.false c.index-elements-element.is
    c.next_element-element.ensures.row c.next_element-element.ensures.properties c.as_slice-properties.ensures in
    record {
      next =
          row_refused c.in-Err-read_fields.why c.self.inside.head.now.elements c.next_element-element.result.0
          c.next_element-element.result.1 c.as_slice-properties.result.now
          (rest_at c.self.inside.head.now.kind c.self.inside.body.now c.self.inside.place)
          c.clear-in-Err-read_fields.new.self.items c.args.self.now
          next (c.next_element-element.ensures.same
          (rest_at c.self.inside.head.now.kind c.self.inside.body.now c.self.inside.place)
          ∙ ap (λ (r : Reader). r.left) c.self.view_is) c.in-Err-read_fields.ensures.fields
          c.clear-in-Err-read_fields.ensures.items;
      row = tt;
      inside =
          row_ends_inside (Option RowAt) c.args.self.now.body c.in-Err-read_fields.why _ _ _ _
          c.in-Err-read_fields.ensures.fields;
    }
