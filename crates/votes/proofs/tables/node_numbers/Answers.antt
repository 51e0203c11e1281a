use Rattle.std.proofs.Common.{◌<◌, length, Contains, subst, sym, arith}
use Rattle.std.proofs.lemmas.List.Elements.{Contains-get_or}
use Rattle.cell_net.specs.declared.rows.Row.{Row}
use Rattle.cell_net.specs.Parts.{id_of_row}
use Rattle.votes.proofs.NumberedTables.{numbered_more}
use Rattle.votes.proofs.tables.node_numbers.Goals as goal

pub index_mut-requires : goal.index_mut-requires
index_mut-requires c =
    let x : Row = c.index-rows-node.result in
    let l : c.loop-node.node < length c.args.rows.now = omega arith in
    let m : id_of_row x < c.args.count =
    c.requires.ids x
    (subst (Contains c.args.rows.now) (sym c.index-rows-node.is) (Contains-get_or c.args.rows.now c.loop-node.node x l)) in
    let e = c.number.ensures in
    let n = c.loop-node.invariant.0 in
    omega (arith, m, e, n)

pub loop-node-preserved : goal.loop-node-preserved
loop-node-preserved c =
    let x : Row = c.index-rows-node.result in
    let l : c.loop-node.node < length c.args.rows.now = omega arith in
    let m : id_of_row x < c.args.count =
    c.requires.ids x
    (subst (Contains c.args.rows.now) (sym c.index-rows-node.is) (Contains-get_or c.args.rows.now c.loop-node.node x l)) in
    let e = c.number.ensures in
    let n = c.loop-node.invariant.0 in (
      c.loop-node.invariant.0,
      numbered_more id_of_row c.args.rows.now c.loop-node.table.items c.loop-node.node c.number.result x c.requires.apart l
          c.loop-node.invariant.1 c.index-rows-node.is c.number.ensures (omega (arith, m, e, n)),
    )
