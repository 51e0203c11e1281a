use Rattle.std.proofs.Common.{ℕ, ◌≡◌, arith, length, sym, subst}
use Rattle.std.specs.List.{All}
use Rattle.mesh.specs.Meshes.{IsFace}
use Rattle.mesh_measures.specs.Marks.{IsEndOfOdd, IsFlagged}
use Rattle.mesh_measures.proofs.manifolds.mark_all_ends.Goals as goal

pub mark_ends-requires-clause-each : goal.mark_ends-requires-clause-each
mark_ends-requires-clause-each c =
    subst (λ (n : ℕ). All (IsFace n) c.args.faces.now) (sym c.loop-i.invariant.count) c.requires.each

pub returns-clause-marked : goal.returns-clause-marked
returns-clause-marked c =
    let end : c.loop-i.i ≡ length c.args.sides.now = omega arith in
    subst (λ (n : ℕ). IsFlagged (IsEndOfOdd c.args.faces.now c.args.sides.now n) c.loop-i.flags) end c.loop-i.invariant.marked
