-- The fields of a row, property after property.
--
-- The invariant is that the fields so far, in front of what is read of the properties left, are what is read of the row
-- (so_far), and that each field fits its property (fits). A field that is refused is the refusal of the row
-- (fields_fail), one that is read moves both on (fields_more, one_fits), and behind the last property the fields are the
-- row's (fields_done).
use Rattle.std.proofs.Common.{◌≡◌, arith, sym, ap, ◌∙◌, List, subst, length, drop, ◌+◌}
use Rattle.std.proofs.lemmas.Result.{err_from_is_err_and}
use Rattle.ply_rows.specs.declared.place.Field.{Field}
use Rattle.ply_rows.specs.Rests.{rest_at, fields_of}
use Rattle.ply_rows.proofs.RowLemmas.{with_front, fields_more, fields_fail, fields_done}
use Rattle.ply_rows.proofs.FitLemmas.{FitSoFar, one_fits}
use Rattle.ply_rows.proofs.fields.read_fields.Goals as goal

pub loop-i-preserved : goal.loop-i-preserved
loop-i-preserved c = record {
  most = c.in_ok-field.ensures.most;
  fits =
      subst (λ (fs : List Field). FitSoFar c.args.kind c.args.body.now c.args.properties.now (c.loop-i.i + 1) fs)
      (sym c.in_ok-push.ensures.items)
      (one_fits c.args.kind c.args.body.now c.args.properties.now c.loop-i.i c.loop-i.out.items c.index-properties-i.result
      c.in_ok-field.field c.loop-i-test.true c.index-properties-i.is c.loop-i.invariant.fits c.in_ok-field.ensures.fits);
  so_far =
      ap (λ (fs : List Field).
      with_front fs
      (fields_of c.args.row.element c.args.row.row (c.loop-i.i + 1) (drop (c.loop-i.i + 1) c.args.properties.now)
      (rest_at c.args.kind c.args.body.now c.in_ok-field.behind))) c.in_ok-push.ensures.items
      ∙ fields_more c.args.row.element c.args.row.row c.loop-i.i c.args.properties.now c.index-properties-i.result
      (rest_at c.args.kind c.args.body.now c.loop-i.end) (rest_at c.args.kind c.args.body.now c.in_ok-field.behind)
      c.loop-i.out.items c.in_ok-field.field _ c.loop-i-test.true c.index-properties-i.is c.in_ok-field.ensures.field
      c.loop-i.invariant.so_far;
}

pub returns-in_err-field-clause-fields : goal.returns-in_err-field-clause-fields
returns-in_err-field-clause-fields c =
    let p = err_from_is_err_and c.from_residual.result c.from_residual.ensures.1 in
    rw (p.1, p.2)
    (fields_fail c.in_err-field.field-0.0 c.args.row.element c.args.row.row c.loop-i.i c.args.properties.now
    c.index-properties-i.result (rest_at c.args.kind c.args.body.now c.loop-i.end) c.loop-i.out.items _ c.loop-i-test.true
    c.index-properties-i.is c.in_err-field.ensures.field c.loop-i.invariant.so_far)

pub returns-clause-fields : goal.returns-clause-fields
returns-clause-fields c =
    fields_done c.args.row.element c.args.row.row c.loop-i.i c.args.properties.now
    (rest_at c.args.kind c.args.body.now c.loop-i.end) c.loop-i.out.items _ c.loop-i-test.false c.loop-i.invariant.so_far

pub returns-clause-fits : goal.returns-clause-fits
returns-clause-fits c =
    let all : c.loop-i.i ≡ length c.args.properties.now = omega (arith, c.loop-i.auto.i-end, c.loop-i-test.false) in
    record {
      count = c.loop-i.invariant.fits.count ∙ all;
      each = λ k p f lt. c.loop-i.invariant.fits.each k p f (omega (arith, all, lt));
    }
