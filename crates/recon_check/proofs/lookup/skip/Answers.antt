use Rattle.std.proofs.Common.{◌≡◌, ◌∙◌, ap, arith}
use Rattle.recon_check.specs.Lookups.{least_number}
use Rattle.recon_check.proofs.Lookups.{skipped_more}
use Rattle.recon_check.proofs.lookup.skip.Goals as goal

pub loop-place-preserved : goal.loop-place-preserved
loop-place-preserved g c =
    let e : c.first_number.result ≡ least_number (g.R.Row.key c.index-rows-place.result) =
    c.first_number.ensures ∙ ap least_number c.key.ensures in
    let less = c.if-first_number-number.true in
    let from = c.loop-place.invariant.0 in
    let test = c.loop-place-test.true in (
      omega (arith, from),
      omega (arith, test),
      skipped_more g.R.Row.key c.args.rows.now c.args.from c.loop-place.place c.args.number c.index-rows-place.result test
          c.index-rows-place.is (omega (arith, e, less)) c.loop-place.invariant.2,
    )
