use Rattle.tetra_store.specs.Renumbered.{AreKeptMoved}
use Rattle.tetra_store.proofs.renumbering.all_moved_kept.Given as goal

abbrev pub invariant-loop-cell : goal.invariant-loop-cell
invariant-loop-cell l = AreKeptMoved l.of l.kept l.moved.items l.cell-index
