use Rattle.std.proofs.Common.{ℕ, List, subst}
use Rattle.std.specs.Bool.{OnTrue}
use Rattle.mesh_edges.specs.Sets.{IsFirstOfSet}
use Rattle.mesh_edges.proofs.sets.DisjointSets.is_first.Goals as goal

pub returns-clause-yes : goal.returns-clause-yes
returns-clause-yes c =
    subst (λ (parents : List ℕ). OnTrue c.is_own.result (IsFirstOfSet parents c.args.i)) c.deref.ensures.value c.is_own.ensures.yes
