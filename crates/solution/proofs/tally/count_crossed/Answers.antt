use Rattle.std.proofs.Common.{◌≡◌, ◌+◌, ◌*◌, refl, ◌∙◌, arith, ap, slice_index}
use Rattle.solution.proofs.WalkCounts.{counted_on, same_length, shorter, has_room, line_adds, line_adds_at_most, rest_of, adds}
use Rattle.solution.proofs.WalkCounts.{side}
use Rattle.solution.proofs.tally.count_crossed.Goals as goal

pub loop-along-init : goal.loop-along-init
loop-along-init c = (refl, record { store = c.walk_into-along.ensures.same.0; sums = λ id k l. omega arith })

pub count_next-requires-clause-store : goal.count_next-requires-clause-store
count_next-requires-clause-store c = c.loop-along.invariant.1.store

pub count_next-requires-clause-room : goal.count_next-requires-clause-room
count_next-requires-clause-room c =
    let a = c.args in let first = c.walk_into-along.result in let l = c.loop-along in
    has_room a.t.now a.line.now.added l.along (λ id k. 0)
    (λ id k. slice_index a.crossed.now (4 * id + k) + rest_of a.line.now.added first id k) l.crossed l.invariant.1
    (λ id k m.
    (let all = line_adds a.t.now a.line.now first c.walk_into-along.ensures.same c.walk_into-along.ensures.sight id k m in
    let most = line_adds_at_most a.t.now a.line.now id k in
    let room = c.requires.room id k m in
    omega (arith, all, most, room)))

pub loop-along-smaller : goal.loop-along-smaller
loop-along-smaller c =
    let a = c.args in let l = c.loop-along in
    shorter a.line.now.added l.along c.count_next.new.along l.crossed c.count_next.new.crossed
    (c.count_next.ensures.on c.loop-along-test.true)

pub loop-along-preserved : goal.loop-along-preserved
loop-along-preserved c =
    let a = c.args in let l = c.loop-along in let step = c.count_next.ensures.on c.loop-along-test.true in (
      same_length a.line.now.added l.along c.count_next.new.along l.crossed c.count_next.new.crossed step ∙ l.invariant.0,
      counted_on a.t.now a.line.now.added l.along c.count_next.new.along (λ id k. 0)
          (λ id k. slice_index a.crossed.now (4 * id + k) + rest_of a.line.now.added c.walk_into-along.result id k)
          l.crossed c.count_next.new.crossed l.invariant.1 (omega (arith, l.invariant.0, c.requires.fits)) step,
    )

pub returns-clause-added : goal.returns-clause-added
returns-clause-added c id k m =
    let a = c.args in let l = c.loop-along in let out = c.count_next.ensures.out c.loop-along-test.false in
    let all =
    line_adds a.t.now a.line.now c.walk_into-along.result c.walk_into-along.ensures.same
    c.walk_into-along.ensures.sight id k m in
    let none : rest_of a.line.now.added l.along id k ≡ 0 = ap (λ ds. adds a.line.now.added (side id k) ds) out.0 in
    let same : slice_index c.count_next.new.crossed (4 * id + k) ≡ slice_index l.crossed (4 * id + k) =
    ap (λ xs. slice_index xs (4 * id + k)) out.2 in
    let sum = l.invariant.1.sums id k m in
    omega (arith, all, none, same, sum)
