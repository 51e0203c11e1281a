use Rattle.std.proofs.Common.{ℕ, ℤ, ◌≡◌, ◌↔◌, ◌<ℤ◌, pos, Bool, IsTrue, ◌∙◌, get_or, slice_index}
use Rattle.geo_sign.specs.Point.{Point, origin}
use Rattle.geo_sign.specs.Rational.{side, displaced}
use Rattle.sight.proofs.Exits.{left_same, side_same}
use Rattle.sight.proofs.exit.behind_by_displacement.Goals as goal

pub returns-clause-left : goal.returns-clause-left
returns-clause-left c =
    let a = c.args in
    let at : ℕ → Point = λ n. get_or a.t.now.points n origin in
    let by : ℕ → ℤ = λ j. side (at a.vertex) (at (slice_index a.vertices j)) (at a.fourth) (displaced a.s) in
    let test : (j : ℕ) (x : Point) → x ≡ at (slice_index a.vertices j) → (yes : Bool)
    → IsTrue yes ↔ (pos 0 <ℤ side c.point-p.result x c.point-d.result (displaced a.s)) → IsTrue yes ↔ (pos 0 <ℤ by j) =
    λ j x e.
    side_same a.s c.point-p.result x c.point-d.result (at a.vertex) (at (slice_index a.vertices j)) (at a.fourth)
    c.point-p.ensures e c.point-d.ensures in
    c.left.ensures.left
    ∙ left_same c.is_before_displaced.result c.is_before_displaced-2.result c.is_before_displaced-3.result (by 0) (by 1) (by 2)
    (test 0 c.point.result c.point.ensures c.is_before_displaced.result c.is_before_displaced.ensures)
    (test 1 c.point-2.result c.point-2.ensures c.is_before_displaced-2.result c.is_before_displaced-2.ensures)
    (test 2 c.point-3.result c.point-3.ensures c.is_before_displaced-3.result c.is_before_displaced-3.ensures)
