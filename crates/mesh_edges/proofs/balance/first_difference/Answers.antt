use Rattle.std.proofs.Common.{◌≡◌, arith, length}
use Rattle.mesh_edges.proofs.Differences.{first_there, first_back, none_differ}
use Rattle.mesh_edges.proofs.balance.first_difference.Goals as goal

pub returns-then-at-back-clause-some : goal.returns-then-at-back-clause-some
returns-then-at-back-clause-some c =
    first_there c.args.there.now c.args.back.now c.loop-at.at c.requires.there_sorted c.requires.back_sorted
    c.requires.there_rising c.loop-at.invariant.same (omega arith) (λ m. absurd (omega arith))

pub returns-then-key-clause-some : goal.returns-then-key-clause-some
returns-then-key-clause-some c =
    first_there c.args.there.now c.args.back.now c.loop-at.at c.requires.there_sorted c.requires.back_sorted
    c.requires.there_rising c.loop-at.invariant.same (omega arith) (λ m. omega arith)

pub returns-then-key-2-clause-some : goal.returns-then-key-2-clause-some
returns-then-key-2-clause-some c =
    first_back c.args.there.now c.args.back.now c.loop-at.at c.requires.there_sorted c.requires.back_sorted
    c.requires.back_rising c.loop-at.invariant.same (omega arith) (λ m. omega arith)

pub returns-then-there-back-clause-some : goal.returns-then-there-back-clause-some
returns-then-there-back-clause-some c =
    let end : c.loop-at.at ≡ length c.args.there.now = omega arith in
    rw (← end)
    (first_back c.args.there.now c.args.back.now c.loop-at.at c.requires.there_sorted c.requires.back_sorted
    c.requires.back_rising c.loop-at.invariant.same (omega arith) (λ m. absurd (omega arith)))

pub returns-else-there-back-clause-none : goal.returns-else-there-back-clause-none
returns-else-there-back-clause-none c =
    λ k. none_differ c.args.there.now c.args.back.now c.loop-at.at k c.loop-at.invariant.same (omega arith) (omega arith)
