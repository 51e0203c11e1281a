use Rattle.std.proofs.Common.{◌<◌, length, Contains, subst, sym, arith}
use Rattle.std.proofs.lemmas.List.Elements.{Contains-get_or}
use Rattle.cell_net.specs.declared.sides.Side.{Side}
use Rattle.votes.proofs.arcs.arcs_with.Goals as goal

pub arc-requires : goal.arc-requires
arc-requires c =
    let x : Side = c.side-item.result in
    let l : c.loop-side.side-index < length c.args.sides.now = omega arith in
    c.requires x
    (subst (Contains c.args.sides.now) (sym c.side-item.is) (Contains-get_or c.args.sides.now c.loop-side.side-index x l))
