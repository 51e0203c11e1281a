use Rattle.std.proofs.Common.{◌<◌, length, Contains, subst, sym, arith}
use Rattle.std.proofs.lemmas.List.Elements.{Contains-get_or}
use Rattle.cell_net.specs.declared.sides.Side.{Side}
use Rattle.cell_net.specs.Parts.{number_of_side}
use Rattle.votes.proofs.NumberedTables.{numbered_more}
use Rattle.votes.proofs.tables.arc_numbers.Goals as goal

pub index_mut-requires : goal.index_mut-requires
index_mut-requires c =
    let x : Side = c.index-sides-arc.result in
    let l : c.loop-arc.arc < length c.args.sides.now = omega arith in
    let m : number_of_side x < c.args.count =
    c.requires.numbers x
    (subst (Contains c.args.sides.now) (sym c.index-sides-arc.is) (Contains-get_or c.args.sides.now c.loop-arc.arc x l)) in
    let e = c.number.ensures in
    let n = c.loop-arc.invariant.0 in
    omega (arith, m, e, n)

pub loop-arc-preserved : goal.loop-arc-preserved
loop-arc-preserved c =
    let x : Side = c.index-sides-arc.result in
    let l : c.loop-arc.arc < length c.args.sides.now = omega arith in
    let m : number_of_side x < c.args.count =
    c.requires.numbers x
    (subst (Contains c.args.sides.now) (sym c.index-sides-arc.is) (Contains-get_or c.args.sides.now c.loop-arc.arc x l)) in
    let e = c.number.ensures in
    let n = c.loop-arc.invariant.0 in (
      c.loop-arc.invariant.0,
      numbered_more number_of_side c.args.sides.now c.loop-arc.table.items c.loop-arc.arc c.number.result x c.requires.apart l
          c.loop-arc.invariant.1 c.index-sides-arc.is c.number.ensures (omega (arith, m, e, n)),
    )

pub number-requires : goal.number-requires
number-requires c =
    let x : Side = c.index-sides-arc.result in
    let l : c.loop-arc.arc < length c.args.sides.now = omega arith in
    let m : number_of_side x < c.args.count =
    c.requires.numbers x
    (subst (Contains c.args.sides.now) (sym c.index-sides-arc.is) (Contains-get_or c.args.sides.now c.loop-arc.arc x l)) in
    let n = c.ranges.count.fits in
    omega (arith, m, n)
