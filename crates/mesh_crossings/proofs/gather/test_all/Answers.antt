use Rattle.std.proofs.Common.{List, sym, subst}
use Rattle.std.specs.List.{All}
use Rattle.mesh_edges.specs.declared.pairs.Pair.{Pair}
use Rattle.mesh_crossings.specs.Crossings.{AreOrdered}
use Rattle.mesh_crossings.specs.Tested.{ArePairsKnown}
use Rattle.mesh_crossings.proofs.Known.{all_known}
use Rattle.mesh_crossings.proofs.Tidied.{all_same}
use Rattle.mesh_crossings.proofs.gather.test_all.Goals as goal

pub judged-requires-clause-ordered : goal.judged-requires-clause-ordered
judged-requires-clause-ordered c =
    subst (λ (pairs : List Pair). All (AreOrdered c.args.faces.now) pairs) (sym c.deref.ensures.value)
    (all_same (AreOrdered c.args.faces.now) c.in_ok-pairs.pairs.items c.in_ok-once.once.items c.in_ok-once.ensures.same.1
    c.in_ok-pairs.ensures.ordered)

pub judged-requires-clause-known : goal.judged-requires-clause-known
judged-requires-clause-known c =
    subst (ArePairsKnown c.args.points.now c.args.faces.now) (sym c.deref.ensures.value)
    (all_known c.args.points.now c.args.faces.now c.args.ranks.now.numbers.now c.in_ok-pairs.pairs.items
    c.in_ok-once.once.items c.requires.ranks.covers c.in_ok-pairs.ensures.known c.in_ok-once.ensures.same)
