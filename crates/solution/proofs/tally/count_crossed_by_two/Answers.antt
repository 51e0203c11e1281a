-- Two walks by turns, a step of the one and then a step of the other, until both have ended.
--
-- Whatever the order of steps, each counter with what both walks will still add to it stays the same: the `total`, which
-- fits 32 bits (total_fits). A step of one walk moves its share from what is to come into the counter (kept), with the
-- other's share held fixed (in_turn puts the other in its place), so the invariant holds behind both. Where a walk has
-- ended, nothing of it is to come. Each round takes a facet from one of the two ways at least (loop-along_one-smaller).
use Rattle.std.proofs.Common.{◌≡◌, ◌<◌, ◌≤◌, ◌+◌, ◌*◌, ◌^◌, ℕ, refl, ◌∙◌, arith, List, ap, length, slice_index}
use Rattle.sight.specs.Walks.{Walk, IsSight}
use Rattle.tetra_store.specs.Store.{Store}
use Rattle.solution.specs.declared.tally.Line.{Line}
use Rattle.solution.proofs.WalkCounts.{IsFrom, kept, in_turn, no_longer, shorter, has_room, line_adds, line_adds_at_most, rest_of}
use Rattle.solution.proofs.WalkCounts.{adds, side}
use Rattle.solution.proofs.tally.count_crossed_by_two.Goals as goal
use Rattle.solution.proofs.tally.count_crossed_by_two.Goals.{else-not-one_goes_on-via-then-not-one_goes_on+else-not-other_goes_on}
use Rattle.solution.proofs.tally.count_crossed_by_two.Goals.{else-not-one_goes_on-via-else-not-one_goes_on}

-- what the counters come to, from two whole sights on
abbrev total : Line → Line → Walk → Walk → List ℕ → (id k : ℕ) → ℕ
total one other first other_first old id k =
    slice_index old (4 * id + k) + (rest_of one.added first id k + rest_of other.added other_first id k)

total_fits : (s : Store) (one other : Line) (first other_first : Walk) (old : List ℕ) → IsFrom s one.vertex one.scanner first
    → IsSight first
    → IsFrom s other.vertex other.scanner other_first → IsSight other_first
    → ((id k : ℕ) → k < 4 → slice_index old (4 * id + k) + (one.added + other.added) < 2 ^ 32) → (id k : ℕ) → k < 4
    → total one other first other_first old id k < 2 ^ 32
total_fits s one other first other_first old from sight other_from other_sight room id k m =
    let a = line_adds s one first from sight id k m in
    let b = line_adds s other other_first other_from other_sight id k m in
    let c = line_adds_at_most s one id k in
    let d = line_adds_at_most s other id k in
    let e = room id k m in
    omega (arith, a, b, c, d, e)

pub loop-along_one-init : goal.loop-along_one-init
loop-along_one-init c = (
  refl,
  c.walk_into-along_other.ensures.same.0,
  record {
    store = c.walk_into-along_one.ensures.same.0;
    sums = λ id k l. omega arith;
  },
)

pub count_next-one_goes_on-requires-clause-store : goal.count_next-one_goes_on-requires-clause-store
count_next-one_goes_on-requires-clause-store c = c.loop-along_one.invariant.2.store

pub count_next-one_goes_on-requires-clause-room : goal.count_next-one_goes_on-requires-clause-room
count_next-one_goes_on-requires-clause-room c =
    let a = c.args in let l = c.loop-along_one in let x = c.walk_into-along_one in let y = c.walk_into-along_other in
    has_room a.t.now a.one.now.added l.along_one (rest_of a.other.now.added l.along_other)
    (total a.one.now a.other.now x.result y.result a.crossed.now) l.crossed l.invariant.2
    (total_fits a.t.now a.one.now a.other.now x.result y.result a.crossed.now x.ensures.same x.ensures.sight y.ensures.same
    y.ensures.sight c.requires.room)

pub count_next-other_goes_on-requires-clause-store : goal.count_next-other_goes_on-requires-clause-store
count_next-other_goes_on-requires-clause-store c = c.loop-along_one.invariant.1

pub count_next-other_goes_on-requires-clause-room : goal.count_next-other_goes_on-requires-clause-room
count_next-other_goes_on-requires-clause-room c =
    let a = c.args in
    let l = c.loop-along_one in
    let x = c.walk_into-along_one in
    let y = c.walk_into-along_other in
    let n = c.count_next-one_goes_on in
    let t = total a.one.now a.other.now x.result y.result a.crossed.now in
    let after =
    kept a.t.now a.one.now.added l.along_one n.new.along (rest_of a.other.now.added l.along_other) t l.crossed n.new.crossed
    n.result l.invariant.2 (omega (arith, l.invariant.0, c.requires.fits)) n.ensures.on n.ensures.out in
    has_room a.t.now a.other.now.added l.along_other (rest_of a.one.now.added n.new.along) t n.new.crossed
    (in_turn a.t.now a.one.now.added a.other.now.added n.new.along l.along_other t n.new.crossed after.0 l.invariant.1)
    (total_fits a.t.now a.one.now a.other.now x.result y.result a.crossed.now x.ensures.same x.ensures.sight y.ensures.same
    y.ensures.sight c.requires.room)

pub returns-then-not-other_goes_on-clause-added : goal.returns-then-not-other_goes_on-clause-added
returns-then-not-other_goes_on-clause-added c id k m =
    let a = c.args in let l = c.loop-along_one in let x = c.walk_into-along_one in let y = c.walk_into-along_other in
    let out = c.count_next-one_goes_on.ensures.out c.if-not-one_goes_on.true in
    let other_out = c.count_next-other_goes_on.ensures.out c.if-not-other_goes_on.true in
    let all = line_adds a.t.now a.one.now x.result x.ensures.same x.ensures.sight id k m in
    let other_all = line_adds a.t.now a.other.now y.result y.ensures.same y.ensures.sight id k m in
    let none : rest_of a.one.now.added l.along_one id k ≡ 0 = ap (λ ds. adds a.one.now.added (side id k) ds) out.0 in
    let other_none : rest_of a.other.now.added l.along_other id k ≡ 0 =
    ap (λ ds. adds a.other.now.added (side id k) ds) other_out.0 in
    let same : slice_index c.count_next-other_goes_on.new.crossed (4 * id + k) ≡ slice_index l.crossed (4 * id + k) =
    ap (λ xs. slice_index xs (4 * id + k)) (other_out.2 ∙ out.2) in
    let sum = l.invariant.2.sums id k m in
    omega (arith, all, other_all, none, other_none, same, sum)

pub loop-along_one-smaller : goal.loop-along_one-smaller
loop-along_one-smaller c =
    let a = c.args in let l = c.loop-along_one in let n = c.count_next-one_goes_on in let o = c.count_next-other_goes_on in
    let one : length n.new.along.to_come ≤ length l.along_one.to_come =
    no_longer a.one.now.added l.along_one n.new.along l.crossed n.new.crossed n.result n.ensures.on n.ensures.out in
    let other : length o.new.along.to_come ≤ length l.along_other.to_come =
    no_longer a.other.now.added l.along_other o.new.along n.new.crossed o.new.crossed o.result o.ensures.on o.ensures.out in
    elim c.else-not-one_goes_on.branch [
      | else-not-one_goes_on-via-then-not-one_goes_on+else-not-other_goes_on w ↦
          let step =
          shorter a.other.now.added l.along_other o.new.along n.new.crossed o.new.crossed
          (o.ensures.on w.if-not-other_goes_on.false) in
          omega (arith, one, step)
      | else-not-one_goes_on-via-else-not-one_goes_on w ↦
          let step =
          shorter a.one.now.added l.along_one n.new.along l.crossed n.new.crossed (n.ensures.on w.if-not-one_goes_on.false) in
          omega (arith, other, step)
    ]

pub loop-along_one-preserved : goal.loop-along_one-preserved
loop-along_one-preserved c =
    let a = c.args in let l = c.loop-along_one in let x = c.walk_into-along_one in let y = c.walk_into-along_other in
    let n = c.count_next-one_goes_on in let o = c.count_next-other_goes_on in
    let t = total a.one.now a.other.now x.result y.result a.crossed.now in
    let fits : 4 * length a.t.now.slots ≤ length l.crossed = omega (arith, l.invariant.0, c.requires.fits) in
    let after =
    kept a.t.now a.one.now.added l.along_one n.new.along (rest_of a.other.now.added l.along_other) t l.crossed n.new.crossed
    n.result l.invariant.2 fits n.ensures.on n.ensures.out in
    let turn =
    in_turn a.t.now a.one.now.added a.other.now.added n.new.along l.along_other t n.new.crossed after.0 l.invariant.1 in
    let later =
    kept a.t.now a.other.now.added l.along_other o.new.along (rest_of a.one.now.added n.new.along) t n.new.crossed o.new.crossed
    o.result turn (omega (arith, after.1, fits)) o.ensures.on o.ensures.out in (
      later.1 ∙ (after.1 ∙ l.invariant.0),
      later.0.store,
      in_turn a.t.now a.other.now.added a.one.now.added o.new.along n.new.along t o.new.crossed later.0 after.0.store,
    )
