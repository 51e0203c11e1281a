-- Which vertex is left behind, by three determinants of images.
--
-- Each determinant is small enough for 128 bits (same). Where it is not zero its sign is that of the side of the
-- displaced scanner, since the displacement is too small to change it (before_seen, for the first, the second and the
-- third vertex of the front). So the three tests are those of the three sides, and the table gives for both the same
-- vertex (left_same). Where one is zero the displacement decides, which is another call with a contract of the same
-- words.
use Rattle.std.proofs.Common.{ℕ, ℤ, ◌≡◌, ◌<◌, ◌^◌, ◌*◌, ◌≤◌, ◌∙◌, ◌-ℤ◌, ◌*ℤ◌, ◌<ℤ◌, ◌↔◌, pos, Bool, IsTrue, arith, subst, unsigned_abs}
use Rattle.std.proofs.Common.{get_or, slice_index, slice_index_or}
use Rattle.std.specs.Int.{w128}
use Rattle.geo_sign.specs.Point.{Point, origin}
use Rattle.geo_sign.specs.Rational.{side, displaced}
use Rattle.geo_sign.proofs.Bounds.{kept, held, held_kept}
use Rattle.sight.specs.declared.image.Image.{Image}
use Rattle.sight.specs.Exits.{left_behind, left_by}
use Rattle.sight.specs.Images.{no_image}
use Rattle.sight.proofs.Images.{before_seen}
use Rattle.sight.proofs.Exits.{no, left_same}
use Rattle.sight.proofs.exit.behind_by_images.Goals as goal

pub returns-clause-left : goal.returns-clause-left
returns-clause-left c =
    let r = c.args.ray.now in let f = c.args.front.now in let d = c.args.image in let is = c.requires.looked in
    let at : ℕ → Point = λ n. get_or c.args.t.now.points n origin in
    let by : Point → ℕ → ℤ = λ q j. side q (at (slice_index f.vertices j)) (at c.args.fourth) (displaced r.scanner) in
    let tells : (j : ℕ) → j < 3 → (i : Image) → i ≡ slice_index_or f.images j no_image → (n : ℤ)
    → n ≡ i.right *ℤ d.up -ℤ d.right *ℤ i.up → unsigned_abs n ≤ 18 * 2 ^ 96 → ¬ (kept w128 n ≡ pos 0) → (yes : Bool)
    → IsTrue yes ↔ (pos 0 <ℤ kept w128 n) → IsTrue yes ↔ (pos 0 <ℤ by r.point j) =
    λ j l i same n value small not_zero.
    (let z = c.requires.seen j l in
    before_seen r.screen r.point r.scanner (at (slice_index f.vertices j)) (at c.args.fourth) (slice_index_or f.images j no_image) d
    is.screen z.image c.requires.image.image is.within z.within c.requires.image.within (kept w128 n)
    ((held_kept w128 (held (18 * 2 ^ 96) n small) tt).is
    ∙ subst (λ (m : Image). n ≡ m.right *ℤ d.up -ℤ d.right *ℤ m.up) same value) not_zero) in
    let one = c.determinant-first in let two = c.determinant-second in let three = c.determinant-third in
    c.left.ensures.left
    ∙ subst (λ (q : Point). left_behind c.is_positive.result c.is_positive-2.result c.is_positive-3.result
    ≡ left_by (by q 0) (by q 1) (by q 2)) is.start
    (left_same c.is_positive.result c.is_positive-2.result c.is_positive-3.result (by r.point 0) (by r.point 1) (by r.point 2)
    (tells 0 (omega arith) c.image_of.result c.image_of.ensures one.result one.ensures.value one.ensures.bound
    (no c.if-is_zero.ensures) c.is_positive.result c.is_positive.ensures)
    (tells 1 (omega arith) c.image_of-2.result c.image_of-2.ensures two.result two.ensures.value two.ensures.bound
    (no c.if-is_zero-2.ensures) c.is_positive-2.result c.is_positive-2.ensures)
    (tells 2 (omega arith) c.image_of-3.result c.image_of-3.ensures three.result three.ensures.value three.ensures.bound
    (no c.if-is_zero-3.ensures) c.is_positive-3.result c.is_positive-3.ensures))

pub behind_by_displacement-requires-clause-known : goal.behind_by_displacement-requires-clause-known
behind_by_displacement-requires-clause-known c = λ j l. (c.requires.seen j l).known

pub behind_by_displacement-requires-then-is_zero-2-clause-known : goal.behind_by_displacement-requires-then-is_zero-2-clause-known
behind_by_displacement-requires-then-is_zero-2-clause-known c = λ j l. (c.requires.seen j l).known

pub behind_by_displacement-requires-then-is_zero-3-clause-known : goal.behind_by_displacement-requires-then-is_zero-3-clause-known
behind_by_displacement-requires-then-is_zero-3-clause-known c = λ j l. (c.requires.seen j l).known
