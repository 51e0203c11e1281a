-- One line of sight of the list goes on, and the others of the list are left (more): the step's sums, and the number of steps, are
-- those of the invariant with it. The room for its weight is within the total, which the invariant has (room).
use Rattle.std.proofs.Common.{ℕ, ◌<◌, ◌+◌, ◌*◌, ◌^◌, ◌≡◌, ◌∙◌, arith, sym, ap, subst, List, length, get_or, drop, slice_index}
use Rattle.std.specs.List.{sum_by}
use Rattle.std.proofs.lemmas.List.Sums.{sum_by-drop_more}
use Rattle.beam.specs.declared.ways.Ray.{Ray}
use Rattle.beam.specs.Beams.{still_added, steps_left}
use Rattle.beam.proofs.beam.leave.Goals as goal

more : (f : Ray → ℕ) (rs : List Ray) (i : ℕ) (r : Ray) → i < length rs → r ≡ get_or rs i r
    → sum_by f (drop i rs) ≡ f r + sum_by f (drop (i + 1) rs)
more f rs i r l e =
    let a = sum_by-drop_more f rs i r l in let b : f (get_or rs i r) ≡ f r = ap f (sym e) in omega (arith, a, b)

pub step-requires-clause-room : goal.step-requires-clause-room
step-requires-clause-room c =
    λ k b.
    (let s = c.args.view.now.t.now in let o = c.args.view.now.s in let y = c.args.from.now.cell in let rs = c.args.from.now.rays.items in
    let i = c.loop-ray.ray-index in let r : Ray = c.ray-item.result in let live = c.requires.from.live in
    let e = ap length c.deref-ray-items.ensures.value in
    let l : i < length rs = omega (arith, e, c.loop-ray-test.true) in
    let is : r ≡ get_or rs i r = cc in
    let m = more (still_added s o y k y) rs i r l is in
    let sums = c.loop-ray.invariant.sums y k live b in
    let room = c.requires.room y k live b in
    subst (λ (x : ℕ). slice_index c.loop-ray.crossed (4 * x + k) + still_added s o x k x r < 2 ^ 32)
    (sym c.passage_of-passage.ensures.cell) (omega (arith, m, sums, room)))

pub loop-ray-preserved : goal.loop-ray-preserved
loop-ray-preserved c =
    let s = c.args.view.now.t.now in let o = c.args.view.now.s in let y = c.args.from.now.cell in let rs = c.args.from.now.rays.items in
    let i = c.loop-ray.ray-index in let r : Ray = c.ray-item.result in
    let e = ap length c.deref-ray-items.ensures.value in
    let l : i < length rs = omega (arith, e, c.loop-ray-test.true) in
    let is : r ≡ get_or rs i r = cc in
    let step = c.in_ok-step.ensures in let cell = c.passage_of-passage.ensures.cell in
    record {
      count = step.count ∙ c.loop-ray.invariant.count;
      waiting = step.waiting;
      sums = λ id k m b.
          (let n = more (still_added s o id k y) rs i r l is in
          let sums = c.loop-ray.invariant.sums id k m b in
          let here = step.sums id k m b in
          let at = ap (λ (x : ℕ). still_added s o id k x r) cell in
          omega (arith, n, sums, here, at));
      less =
          (let n = more (steps_left s o y) rs i r l is in
          let less = c.loop-ray.invariant.less in
          let here = step.work in
          let at = ap (λ (x : ℕ). steps_left s o x r) cell in
          omega (arith, n, less, here, at));
    }
