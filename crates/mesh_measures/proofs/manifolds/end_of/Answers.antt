use Rattle.std.proofs.Common.{arith}
use Rattle.mesh_measures.proofs.Linked.{corner_within}
use Rattle.mesh_measures.proofs.Starts.{start_below}
use Rattle.mesh_measures.proofs.manifolds.end_of.Goals as goal

pub start-requires : goal.start-requires
start-requires c =
    omega (arith, corner_within c.args.faces.now c.args.sides.now c.requires.sides c.args.part c.args.i c.requires.within, c.part_at.ensures)

pub returns-clause-below : goal.returns-clause-below
returns-clause-below c = λ n each.
    omega (
      arith,
      start_below c.args.faces.now n c.part_at.result each
          (omega (
            arith,
            corner_within c.args.faces.now c.args.sides.now c.requires.sides c.args.part c.args.i c.requires.within,
            c.part_at.ensures,
          )),
      c.start.ensures,
    )
