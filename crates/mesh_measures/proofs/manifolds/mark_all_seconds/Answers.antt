use Rattle.std.proofs.Common.{ℕ, ◌≡◌, ◌*◌, ◌⊎◌, arith, length, refl, sym, subst}
use Rattle.std.specs.List.{All}
use Rattle.mesh.specs.Meshes.{IsFace}
use Rattle.mesh_measures.specs.Marks.{HasSecond, IsEndOfOdd, IsFlagged}
use Rattle.mesh_measures.proofs.Marked.{second_none}
use Rattle.mesh_measures.proofs.manifolds.mark_all_seconds.Goals as goal

pub loop-c-init : goal.loop-c-init
loop-c-init c =
    record {
      count = refl;
      seen_count = refl;
      seen = c.requires.seen;
      marked =
          second_none c.args.faces.now c.args.sets.now.parents.items
          (IsEndOfOdd c.args.faces.now c.args.sides.now (length c.args.sides.now)) c.args.flags.now c.requires.marked;
    }

pub mark_second-requires-clause-each : goal.mark_second-requires-clause-each
mark_second-requires-clause-each c =
    subst (λ (n : ℕ). All (IsFace n) c.args.faces.now) (sym c.loop-c.invariant.count) c.requires.each

pub returns-clause-marked : goal.returns-clause-marked
returns-clause-marked c =
    let end : c.loop-c.c ≡ 3 * length c.args.faces.now = omega arith in
    subst
    (λ (n : ℕ).
    IsFlagged
    (λ v.
    IsEndOfOdd c.args.faces.now c.args.sides.now (length c.args.sides.now) v
    ⊎ HasSecond c.args.faces.now c.args.sets.now.parents.items n v)
    c.loop-c.flags)
    end c.loop-c.invariant.marked
