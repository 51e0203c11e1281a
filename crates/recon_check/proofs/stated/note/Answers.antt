use Rattle.std.proofs.Common.{◌∙◌, map, sym, arith}
use Rattle.std.proofs.lemmas.List.{length-map}
use Rattle.recon_check.proofs.Lookups.{noted_at}
use Rattle.recon_check.proofs.stated.note.Goals as goal

pub returns-in-Some : goal.returns-in-Some
returns-in-Some g c =
    let many = length-map c.args.rows.now g.R.Row.key in
    let l = c.in-Some.ensures.some.0 in
    noted_at (map g.R.Row.key c.args.rows.now) c.args.key.now c.args.number c.in-Some.place c.args.numbers.now c.requires.rising
    (omega (arith, l, many)) (c.requires.count ∙ sym many) c.in-Some.ensures.some.1
